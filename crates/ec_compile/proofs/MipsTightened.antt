-- A code whose words have moved has as few operations and stops as it had.
use Rattle.std.proofs.Common.{◌≡◌, ◌∙◌, ℕ, suc, ◌≤◌, Bool, List, [], ◌∷◌, length, Option, sym, ap, arith}
use Rattle.std.specs.Option.{option_map}
use Rattle.std.specs.Prelude.{slice_get}
use Rattle.ec_base.proofs.Lists.{get_there, get_within}
use Rattle.ec_generate.specs.Addresses.{HasFew}
use Rattle.ec_machine_code.specs.Stops.{stops_if}
use Rattle.ec_machine_code.specs.declared.code.Code.{Code}
use Rattle.ec_machine_code.specs.declared.code.OperationCode.{OperationCode}
use Rattle.mips_delay.specs.Fill.{Moved}
use Rattle.mips_delay.specs.Places.{moved_to}

as_few : (xs ys : List ℕ) (f : ℕ → ℕ) → ((n : ℕ) → slice_get ys n ≡ option_map f (slice_get xs n)) → length ys ≤ length xs
as_few [] [] f h = omega arith
as_few [] (y ∷ ys) f h = let e = h 0 in absurd (cc)
as_few (x ∷ xs) [] f h = omega arith
as_few (x ∷ xs) (y ∷ ys) f h = let rest = as_few xs ys f (λ n. h (suc n)) in omega (arith, rest)

pub moved_has_few : (old new : Code) (fills : ℕ → Bool) → Moved old new fills → HasFew old → HasFew new
moved_has_few old new fills M few = record {
  operations = let many = M.many in let most = few.operations in omega (arith, many, most);
  stops = λ op o at.
      let low = get_within new.operations op o at in
      let many = M.many in
      let was = get_there old.operations op (omega (arith, low, many)) in
      let fewer = as_few was.0.stops o.stops (moved_to fills) (λ n.
      ap (λ (p : Option OperationCode). slice_get (stops_if p) n) (sym at) ∙ M.stops op n
      ∙ ap (λ (p : Option OperationCode). option_map (moved_to fills) (slice_get (stops_if p) n)) was.1) in
      let most = few.stops op was.0 was.1 in
      omega (arith, fewer, most);
}
