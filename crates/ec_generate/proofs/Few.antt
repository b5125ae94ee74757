-- The code of a program within its limits has few operations and stops.
use Rattle.std.proofs.Common.{◌≡◌, ℕ, zero, suc, ◌+◌, ◌≤◌, List, [], ◌∷◌, length, Option, Some, None, refl, ap}
use Rattle.std.proofs.Common.{arith}
use Rattle.std.specs.Prelude.{slice_get}
use Rattle.std.proofs.lemmas.List.{length-map}
use Rattle.std.proofs.lemmas.Option.{same_Some}
use Rattle.ec_code.specs.declared.code.Line.{Line}
use Rattle.ec_code.specs.declared.code.Operation.{Operation}
use Rattle.ec_code.specs.declared.code.Parts.{Parts}
use Rattle.ec_code.specs.declared.code.StopRow.{StopRow}
use Rattle.ec_machine_code.specs.Limits.{HasLimits, IsSmallOperation}
use Rattle.ec_machine_code.specs.Stops.{places_from, stop_of, stop_places, with_place}
use Rattle.ec_machine_code.specs.declared.code.OperationCode.{OperationCode}
use Rattle.ec_machine_code.specs.declared.homes.Home.{Home}
use Rattle.ec_machine_code.specs.Layout.{Vocabularies, code_of, operation_codes, place_of, stop_addresses, words_in}
use Rattle.ec_generate.specs.Addresses.{HasFew}
use Rattle.ec_target.specs.Code.{pc_of}
use Rattle.ec_generate.proofs.Listing.{all_at}

place_few : (q : ℕ) (o : Option StopRow) (places : List ℕ) → length (with_place q o places) ≤ suc (length places)
place_few q None places = omega arith
place_few q (Some row) places = omega arith

places_few : (q : ℕ) (code : List Line) → length (places_from q code) ≤ length code
places_few q [] = omega arith
places_few q (line ∷ rest) = omega (arith, place_few q (stop_of line.op) (places_from (suc q) rest), places_few (suc q) rest)

module _ (vs : Vocabularies) (homes : List (List Home)) (orders : List (List ℕ)) where
  codes_long : (n start : ℕ) (os : List Operation) → length (operation_codes vs homes orders n start os) ≡ length os
  codes_long n start [] = refl
  codes_long n start (o ∷ os) = ap suc (codes_long (suc n) (start + words_in vs homes orders n o) os)

  -- the code of an operation has as many stops as this has, and this is one of the program's
  stops_few : (n start k : ℕ) (os : List Operation) (c : OperationCode) → slice_get (operation_codes vs homes orders n start os) k ≡ Some c →
      (o : Operation) × (slice_get os k ≡ Some o) × (length c.stops ≤ length o.code)
  stops_few n start k [] c e = absurd cc
  stops_few n start zero (o ∷ os) c e =
      let code : OperationCode = record { words = words_in vs homes orders n o; stops = stop_addresses vs homes orders n start o } in
      let same : length code.stops ≡ length c.stops = ap (λ (x : OperationCode). length x.stops) (same_Some code c e) in
      let address : ℕ → ℕ = λ q. pc_of (place_of vs homes orders n start o q) in
      (o, refl, omega (arith, same, length-map (stop_places o.code) address, places_few 0 o.code))
  stops_few n start (suc k) (o ∷ os) c e = stops_few (suc n) (start + words_in vs homes orders n o) k os c e

  pub has_few : (p : Parts) → HasLimits p → HasFew (code_of vs homes orders p.operations)
  has_few p limits = record {
    operations = let count = limits.count in omega (arith, codes_long 0 0 p.operations, count);
    stops = λ op c e.
        let o = stops_few 0 0 op p.operations c e in
        let small = all_at IsSmallOperation p.operations op o.0 limits.operations o.1 in
        let few = o.2 in
        omega (arith, few, small.steps);
  }
