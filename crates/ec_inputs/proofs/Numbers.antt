-- A number that is too large shows at the first digit that makes it so.
use Rattle.std.proofs.Common.{◌≡◌, refl, ◌<◌, ◌≤◌, ◌+◌, ◌-◌, ◌*◌, ◌&&◌, ℕ, Bool, true, false, [], ◌∷◌, length, drop, zero, suc}
use Rattle.std.proofs.Common.{None, arith, drop-cons}
use Rattle.std.specs.Prelude.{slice_index, nat_le}
use Rattle.std.specs.Char.{digit_value, is_ascii_digit}
use Rattle.std.specs.List.{list_all}
use Rattle.std.specs.Str.Parse.{digits_value, digits_value_after}
use Rattle.std.proofs.lemmas.Bool.Decides.{nat_tests}
use Rattle.std.proofs.lemmas.Grind.{common_steps}
use Rattle.ec_inputs.specs.Schedules.{Text, small_number}

grows : (n : ℕ) (ds : Text) → n ≤ digits_value_after 10 n ds
grows n [] = omega arith
grows n (d ∷ ds) = let more = grows (n * 10 + digit_value d) ds in omega arith

digit_minus : (c : ℕ) → is_ascii_digit c ≡ true → digit_value c ≡ c - 48
digit_minus c e = grind (arith, nat_tests, common_steps)

and_parts : (a b : Bool) → (a && b) ≡ true → (a ≡ true) × (b ≡ true)
and_parts true b e = (refl, e)
and_parts false b e = let bad : ⊥ = cc in absurd bad

digit_at : (ds : Text) (i : ℕ) → i < length ds → list_all is_ascii_digit ds ≡ true → is_ascii_digit (slice_index ds i) ≡ true
digit_at [] i h e = absurd (omega arith)
digit_at (d ∷ ds) zero h e = (and_parts (is_ascii_digit d) (list_all is_ascii_digit ds) e).0
digit_at (d ∷ ds) (suc i) h e = digit_at ds i (omega arith) (and_parts (is_ascii_digit d) (list_all is_ascii_digit ds) e).1

large : (ds : Text) → 4294967295 < digits_value 10 ds → None ≡ small_number ds
large ds h =
    let e : nat_le (digits_value 10 ds) 4294967295 ≡ false = grind (arith, nat_tests) in
    rw e refl

-- v is the number of the digits before place i
pub past : (ds : Text) (v i : ℕ) → i < length ds → list_all is_ascii_digit ds ≡ true →
    digits_value_after 10 v (drop i ds) ≡ digits_value 10 ds
    → 4294967295 < v * 10 + (slice_index ds i - 48) → None ≡ small_number ds
past ds v i within digits so_far above =
    let here : digit_value (slice_index ds i) ≡ slice_index ds i - 48 = digit_minus _ (digit_at ds i within digits) in
    let all : digits_value_after 10 (v * 10 + digit_value (slice_index ds i)) (drop (suc i) ds) ≡ digits_value 10 ds =
    rw (drop-cons ds i 0 within) at so_far in
    let more = grows (v * 10 + digit_value (slice_index ds i)) (drop (suc i) ds) in
    large ds (omega arith)
