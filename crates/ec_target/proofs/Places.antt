-- The words of code at their places.
use Rattle.std.proofs.Common.{◌≡◌, ℕ, ◌-◌, ◌/◌, ◌%◌, ◌<◌, ◌≤◌, List, length, Some, None, refl, ap, ◌∙◌, arith, cond, true, false}
use Rattle.std.specs.Prelude.{Bool, slice_index, ◌==◌, ◌&&◌, nat_le, nat_lt}
use Rattle.std.proofs.lemmas.Bool.Decides.{nat_tests}
use Rattle.std.proofs.lemmas.Option.{same_Some}
use Rattle.ec_target.specs.Code.{code_base, pc_of, word_at}

-- word i stands at its place
pub word_at-pc_of : (code : List ℕ) (i : ℕ) → i < length code → word_at code (pc_of i) ≡ Some (slice_index code i)
word_at-pc_of code i h =
    let e : (pc_of i - code_base) / 4 ≡ i = omega arith in
    let test : (nat_le code_base (pc_of i) && (pc_of i % 4 == 0) && nat_lt i (length code)) ≡ true = grind (arith, nat_tests) in
    ap (λ j. cond (nat_le code_base (pc_of i) && (pc_of i % 4 == 0) && nat_lt j (length code)) (Some (slice_index code j)) None) e
    ∙ ap (λ t. cond t (Some (slice_index code i)) None) test

some_at : (t : Bool) (x w : ℕ) → cond t (Some x) None ≡ Some w → (t ≡ true) × (x ≡ w)
some_at true x w e = (refl, same_Some x w e)
some_at false x w e = absurd (cc)

-- a word stands nowhere else
pub place_of_word : (code : List ℕ) (pc w : ℕ) → word_at code pc ≡ Some w →
    (i : ℕ) × (i < length code) × (pc ≡ pc_of i) × (slice_index code i ≡ w)
place_of_word code pc w e =
    let i = (pc - code_base) / 4 in
    let found = some_at (nat_le code_base pc && (pc % 4 == 0) && nat_lt i (length code)) (slice_index code i) w e in
    let test = found.0 in
    let low : code_base ≤ pc = grind (arith, nat_tests) in
    let even : pc % 4 ≡ 0 = grind (arith, nat_tests) in
    let within : i < length code = grind (arith, nat_tests) in
    (i, within, (omega (arith, low, even)), found.1)
