-- A stop that gives something, of a well typed program within its limits: it is no entry, the variable that takes it has a column, and
-- is none of those that are live behind it.
use Rattle.std.proofs.Common.{◌≡◌, ◌≢◌, suc, Bool, true, false, true≢false, List, [], length, Some, None, refl, sym, ap, ◌∙◌, subst}
use Rattle.std.specs.Prelude.{if◌then◌else◌, slice_get}
use Rattle.std.proofs.lemmas.Option.{same_Some}
use Rattle.ec_activations.proofs.Meeting.{writes_into}
use Rattle.ec_activations.proofs.Stops.{StandsThere, in_without, stands_there}
use Rattle.ec_activations.proofs.Words.{result_variable}
use Rattle.ec_activations.specs.Frames.{Numbered, at_place, entries_if}
use Rattle.ec_code.specs.Activations.{operation_at}
use Rattle.ec_code.specs.Fine.{Fine, IsIn, live_at}
use Rattle.ec_code.specs.Typing.{Declared}
use Rattle.ec_code.specs.declared.activation.CodeActivation.{CodeActivation}
use Rattle.ec_code.specs.declared.code.Line.{Line}
use Rattle.ec_code.specs.declared.code.Live.{Live}
use Rattle.ec_code.specs.declared.code.Operation.{Operation}
use Rattle.ec_code.specs.declared.code.Parts.{Parts}
use Rattle.ec_code.specs.declared.code.StopRow.{StopRow}
use Rattle.ec_machine_code.specs.Limits.{HasColumn, HasLimits, IsSmallOperation}
use Rattle.ec_machine_code.specs.Stops.{stop_of, without}
use Rattle.ec_code.proofs.Among.{is_same_self}
use Rattle.ec_code.specs.Live.{stays}
use Rattle.ec_code.specs.Marks.{is_same, is_written}
use Rattle.ec_node_frames.specs.Frames.{RestsAt}
use Rattle.ec_generate.proofs.Listing.{all_at}
use Rattle.ec_generate.specs.declared.table.StopEntry.{StopEntry}

module _ (d : Declared) (p : Parts) (fine : Fine d p) (limits : HasLimits p) (a : CodeActivation) (o : Operation)
    (is : operation_at p a.operation ≡ Some o) (e : StopEntry) (rests : RestsAt p a e) (l : Live) (result : e.result ≡ Some l) where
  stands : StandsThere o.code a.at e
  stands =
      let s : Numbered = record { number = rests.number; entry = e } in
      stands_there o.code a.at 0 0 o.code s refl (sym (ap (λ x. at_place a.at 0 (entries_if x)) is) ∙ rests.is)

  taken : stands.row.into ≡ Some l.variable
  taken = result_variable stands.row.into stands.row.gives l (sym (ap (λ (x : StopEntry). x.result) stands.is) ∙ result)

  pub has_column : HasColumn (length o.variables) l.variable
  has_column =
      let small = all_at IsSmallOperation p.operations a.operation o limits.operations is in
      (small.lines a.at stands.line stands.is_line).written l.variable
      (writes_into d p a.operation o (fine.operations a.operation o is) a.at stands.line stands.row stands.is_line stands.is_row ∙ taken)

  pub no_entry : a.at ≢ 0
  no_entry at =
      let entry = (fine.operations a.operation o is).entry in
      let line : entry.line ≡ stands.line =
      same_Some entry.line stands.line (sym entry.is ∙ ap (slice_get o.code) (sym at) ∙ stands.is_line) in
      let row : entry.row ≡ stands.row =
      same_Some entry.row stands.row
      (sym (ap stop_of entry.rests) ∙ ap (λ (x : Line). stop_of x.op) line ∙ stands.is_row) in
      let none : stands.row.into ≡ None = ap (λ (r : StopRow). r.into) (sym row) ∙ entry.into in
      let both : None ≡ Some l.variable = sym none ∙ taken in
      cc

  not_written : (b : Bool) (ls : List Live) (k : Live) → IsIn k (if b then without stands.row.into ls else []) →
      is_written stands.row.into k.variable ≡ false
  not_written true ls k h = (in_without stands.row.into ls k h).1
  not_written false ls k h = absurd h

  pub not_taken : (k : Live) → IsIn k e.live → k.variable ≢ l.variable
  not_taken k h same =
      let w = not_written (stays stands.row.stop) (live_at o.code (suc a.at)) k
      (subst (λ (ls : List Live). IsIn k ls) (ap (λ (x : StopEntry). x.live) stands.is) h) in
      true≢false
      (sym (ap (λ x. is_written x k.variable) taken ∙ ap (λ z. is_same z l.variable) same ∙ is_same_self l.variable) ∙ w)
