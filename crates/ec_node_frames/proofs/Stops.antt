-- The stop at which an activation rests stands in each table of its operation at its number.
use Rattle.std.proofs.Common.{◌≡◌, ℕ, suc, ◌+◌, ◌==◌, Bool, true, false, List, [], ◌∷◌, Some, sym, ap, ◌∙◌, arith}
use Rattle.std.specs.Prelude.{if◌then◌else◌, slice_get}
use Rattle.std.proofs.lemmas.Option.{same_Some}
use Rattle.ec_activations.specs.Frames.{Numbered, at_place, entries_if, number_if}
use Rattle.ec_node_frames.specs.Laws.{OneStopOnEachKind}
use Rattle.ec_code.specs.Activations.{operation_at}
use Rattle.ec_node_frames.proofs.Homed.{its_operation}
use Rattle.ec_generate.specs.declared.table.StopEntry.{StopEntry}

abbrev numbered : ℕ → StopEntry → Numbered
numbered n e = record { number = n; entry = e }

-- a stop that was found stands in the list, as far behind its first one as its number is beyond that one's
record IsAt (number : ℕ) (es : List StopEntry) (s : Numbered) : Type 0 where
  index : ℕ
  is : slice_get es index ≡ Some s.entry
  counted : s.number ≡ number + index

is_at : (place number : ℕ) (es : List StopEntry) (s : Numbered) → at_place place number es ≡ Some s → IsAt number es s
is_at place number [] s f = absurd cc
is_at place number (e ∷ es) s f = by (λ g. is_at place (suc number) es s g) (e.place == place) f
  where
    by : (at_place place (suc number) es ≡ Some s → IsAt (suc number) es s) → (b : Bool) →
        (if b then Some (numbered number e) else at_place place (suc number) es) ≡ Some s → IsAt number (e ∷ es) s
    by further true g =
        let is : numbered number e ≡ s = same_Some (numbered number e) s g in
        let n : number ≡ s.number = ap (λ (x : Numbered). x.number) is in
        record { index = 0; is = ap (λ (x : Numbered). Some x.entry) is; counted = omega (arith, n) }
    by further false g =
        let r = further g in
        let n = r.counted in
        record { index = suc r.index; is = r.is; counted = omega (arith, n) }

pub stop_in_table : OneStopOnEachKind
stop_in_table d p kind homes tables table a e h by its rests heads =
    let o = its_operation d p kind homes tables by h.operation table its in
    let entries : entries_if (operation_at p a.operation) ≡ table.stops =
    ap (λ n. entries_if (operation_at p n)) (sym heads.operation) ∙ ap entries_if o.1 ∙ sym o.2.stops in
    let at = is_at a.at 0 table.stops (numbered rests.number e) (ap (at_place a.at 0) (sym entries) ∙ rests.is) in
    let said : h.stop ≡ rests.number = heads.stop ∙ ap number_if rests.is in
    let counted : rests.number ≡ 0 + at.index = at.counted in
    let number : h.stop ≡ at.index = omega (arith, said, counted) in
    ap (slice_get table.stops) number ∙ at.is
