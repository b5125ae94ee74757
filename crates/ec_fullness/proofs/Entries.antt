-- The table of each operation of a program has its entry, on each kind.
use Rattle.std.proofs.Common.{◌≡◌, ℕ, suc, List, [], ◌∷◌, Some, refl, ap, ◌∙◌}
use Rattle.std.specs.Prelude.{slice_get}
use Rattle.std.proofs.lemmas.Option.{same_Some}
use Rattle.ec_activations.proofs.Frames.{all_two_at}
use Rattle.ec_cluster.specs.declared.cluster.Cluster.{Cluster}
use Rattle.ec_cluster.specs.Frames.{HasImages, tables_on}
use Rattle.ec_code.specs.Fine.{Fine}
use Rattle.ec_code.specs.Typing.{Declared}
use Rattle.ec_code.specs.declared.code.Line.{Line}
use Rattle.ec_code.specs.declared.code.Op.TheVariants.{Rest}
use Rattle.ec_code.specs.declared.code.Operation.{Operation}
use Rattle.ec_code.specs.declared.code.StopRow.{StopRow}
use Rattle.ec_machine_code.specs.Frames.{slots}
use Rattle.ec_machine_code.specs.Stops as stops
use Rattle.ec_fullness.specs.Fitting.{HasEntries}
use Rattle.ec_generate.specs.Entries.{entries_from, entries_of, entry_of, with_entry}
use Rattle.ec_generate.specs.Tables.{IsTableOf}

first_entry : (code : List Line) (line : Line) (row : StopRow) → slice_get code 0 ≡ Some line → line.op ≡ Rest row →
    slice_get (entries_of code) 0 ≡ Some (entry_of code 0 line row)
first_entry [] line row e r = absurd cc
first_entry (first ∷ rest) line row e r =
    let same : first ≡ line = same_Some first line e in
    let stop : stops.stop_of first.op ≡ Some row = ap (λ (l : Line). stops.stop_of l.op) same ∙ ap stops.stop_of r in
    ap (λ x. slice_get (with_entry (first ∷ rest) 0 first x (entries_from (first ∷ rest) (suc 0) rest)) 0) stop
    ∙ ap (λ (l : Line). Some (entry_of (first ∷ rest) 0 l row)) same

pub has_entries : (d : Declared) (c : Cluster) → Fine d c.parts → HasImages d c → (number : ℕ) (o : Operation) →
    slice_get c.parts.operations number ≡ Some o → HasEntries c number
has_entries d c fine images number o is kind =
    let has = images kind in
    let t = all_two_at (IsTableOf has.registers slots) c.parts.operations (tables_on c kind) number o has.are is in
    let begins = (fine.operations number o is).entry in (
      t.0,
      t.1,
      record {
        entry = entry_of o.code 0 begins.line begins.row;
        is = ap (λ es. slice_get es 0) t.2.stops ∙ first_entry o.code begins.line begins.row begins.is begins.rests;
        first = refl;
      },
    )
