-- Numbers as immediates spell them, comparisons and quotients.
use Rattle.std.proofs.Common.{◌≡◌, ◌≢◌, ℕ, zero, suc, ◌+◌, ◌-◌, ◌*◌, ◌/◌, ◌^◌, ◌<◌, ◌≤◌, ◌⊎◌, Some, None, refl, sym, ap, ◌∙◌}
use Rattle.std.proofs.Common.{arith, cond, true, false, inl, inr, ⊎_elim}
use Rattle.std.proofs.Math.Facts.{sfits_to_z}
use Rattle.std.proofs.Math.Nat.{div-le_self}
use Rattle.std.proofs.lemmas.Bool.{cases_lt}
use Rattle.std.proofs.lemmas.Bool.Decides.{nat_tests}
use Rattle.std.proofs.lemmas.Int.{of_z-to_z}
use Rattle.std.proofs.lemmas.Option.{same_Some}
use Rattle.std.specs.Int.{w32, cast_signed, cast_unsigned, from_bool}
use Rattle.std.specs.Prelude.{◌==◌, ◌||◌, Bool, not, nat_le, nat_lt, ℤ, pos, negsuc, neg_ℤ, int_div, int_rem, bit_xor}
use mir.Val.{SFits}
use Rattle.ec_code.specs.declared.code.Arithmetic.TheVariants.{Difference, Quotient, Remainder}
use Rattle.ec_machine_code.specs.Frames.{block_at}
use Rattle.ec_memory.specs.Words.{block_word_at}
use Rattle.ec_machine_code.specs.Micro.{reckoned}
use Rattle.rv_isa.specs.Parts.{high_of, low_of}
use Rattle.rv_machine.proofs.Effects.{small_offset}
use Rattle.rv_machine.specs.Values.{extended, plus, quotient, remainder}
use Rattle.rv_code.specs.Words.{is_small, negative}

-- ---- immediates

-- the low part of a small word is the word
pub small_is : (n : ℕ) → n < 2 ^ 32 → is_small n ≡ true → extended 12 (low_of n) ≡ n
small_is n h e = ⊎_elim
    (λ (lt : n < 2 ^ 11).
    let t : nat_lt (low_of n) (2 ^ 11) ≡ true = grind (arith, nat_tests) in
    ap (λ b. cond b (low_of n) (low_of n + (2 ^ 32 - 2 ^ 12))) t ∙ omega (arith, lt))
    (λ (le : 2 ^ 11 ≤ n).
    let first : nat_lt n (2 ^ 11) ≡ false = grind (arith, nat_tests) in
    let second : nat_le (2 ^ 32 - 2 ^ 11) n ≡ true = sym (ap (λ b. b || nat_le (2 ^ 32 - 2 ^ 11) n) first) ∙ e in
    let high : 2 ^ 32 - 2 ^ 11 ≤ n = grind (arith, nat_tests) in
    let t : nat_lt (low_of n) (2 ^ 11) ≡ false = grind (arith, nat_tests) in
    ap (λ b. cond b (low_of n) (low_of n + (2 ^ 32 - 2 ^ 12))) t ∙ omega (arith, high, h))
    (cases_lt n (2 ^ 11))

pub none_added : (n : ℕ) → n < 2 ^ 32 → plus n (extended 12 0) ≡ n
none_added n h = small_offset n 0 (omega arith) (omega (arith, h)) ∙ omega arith

pub added_to_none : (n : ℕ) → n < 2 ^ 32 → is_small n ≡ true → plus 0 (extended 12 (low_of n)) ≡ n
added_to_none n h e = ap (plus 0) (small_is n h e) ∙ omega (arith, h)

pub high_alone : (n : ℕ) → n < 2 ^ 32 → low_of n ≡ 0 → high_of n * 2 ^ 12 ≡ n
high_alone n h e = omega (arith, h, e)

-- a number from a choice by a test
pub chosen_is : (t : Bool) (k n : ℕ) → (cond t (Some k) None) ≡ Some n → (t ≡ true) × (k ≡ n)
chosen_is true k n e = (refl, same_Some k n e)
chosen_is false k n e = absurd (cc)

-- adding the negative subtracts
pub negative_added : (a b n : ℕ) → b < 2 ^ 32 → negative b ≡ n → plus a n ≡ reckoned Difference a b
negative_added a b n h e = ap (plus a) (sym e) ∙ omega (arith, h)

pub negative_low : (b : ℕ) → negative b < 2 ^ 32
negative_low b = omega arith

-- a word of a block, from a register that has the block's address
pub from_base : (x f i offset at : ℕ) → x ≡ block_at f → f < 65536 → i < 128 → offset ≡ 4 * i → at ≡ block_word_at f i →
    at ≡ plus x (extended 12 offset)
from_base x f i offset at is small lt off e =
    sym (small_offset x offset (omega (arith, off, lt)) (omega (arith, is, small, off, lt)) ∙ omega (arith, is, e, off))

-- ---- comparisons

pub same_or_not : (x y : ℕ) → (x ≡ y) ⊎ (x ≢ y)
same_or_not zero zero = inl refl
same_or_not zero (suc y) = inr (λ e. (cc))
same_or_not (suc x) zero = inr (λ e. (cc))
same_or_not (suc x) (suc y) = ⊎_elim
    (λ (e : x ≡ y). inl (ap suc e))
    (λ (ne : x ≢ y). inr (λ (e : suc x ≡ suc y). ne (omega (arith, e))))
    (same_or_not x y)

pub is_none : (n : ℕ) → (n == 0) ≡ true → n ≡ 0
is_none n e = grind (arith, nat_tests)

pub same_turned : (a b : ℕ) → (a == b) ≡ (b == a)
same_turned a b = ⊎_elim
    (λ (e : a ≡ b).
    let t : (a == b) ≡ true = grind (arith, nat_tests) in
    let u : (b == a) ≡ true = grind (arith, nat_tests) in
    t ∙ sym u)
    (λ (ne : a ≢ b).
    let t : (a == b) ≡ false = grind (arith, nat_tests) in
    let u : (b == a) ≡ false = grind (arith, nat_tests) in
    t ∙ sym u)
    (same_or_not a b)

-- what is below 1 is 0
pub below_one : (a : ℕ) → nat_lt a 1 ≡ (a == 0)
below_one a = ⊎_elim
    (λ (e : a ≡ 0).
    let t : nat_lt a 1 ≡ true = grind (arith, nat_tests) in
    let u : (a == 0) ≡ true = grind (arith, nat_tests) in
    t ∙ sym u)
    (λ (ne : a ≢ 0).
    let t : nat_lt a 1 ≡ false = grind (arith, nat_tests) in
    let u : (a == 0) ≡ false = grind (arith, nat_tests) in
    t ∙ sym u)
    (same_or_not a 0)

-- what is above 0 isn't 0
pub above_zero : (a : ℕ) → nat_lt 0 a ≡ not (a == 0)
above_zero a = ⊎_elim
    (λ (e : a ≡ 0).
    let t : nat_lt 0 a ≡ false = grind (arith, nat_tests) in
    let u : (a == 0) ≡ true = grind (arith, nat_tests) in
    t ∙ sym (ap not u))
    (λ (ne : a ≢ 0).
    let t : nat_lt 0 a ≡ true = grind (arith, nat_tests) in
    let u : (a == 0) ≡ false = grind (arith, nat_tests) in
    t ∙ sym (ap not u))
    (same_or_not a 0)

-- words are the same just where their difference is 0
pub no_difference : (a b : ℕ) → a < 2 ^ 32 → b < 2 ^ 32 → (reckoned Difference a b == 0) ≡ (a == b)
no_difference a b h k = ⊎_elim
    (λ (e : a ≡ b).
    let z : reckoned Difference a b ≡ 0 = omega (arith, e, k) in
    let t : (reckoned Difference a b == 0) ≡ true = grind (arith, nat_tests) in
    let u : (a == b) ≡ true = grind (arith, nat_tests) in
    t ∙ sym u)
    (λ (ne : a ≢ b).
    let z : reckoned Difference a b ≢ 0 = λ e. ne (omega (arith, e, h, k)) in
    let t : (reckoned Difference a b == 0) ≡ false = grind (arith, nat_tests) in
    let u : (a == b) ≡ false = grind (arith, nat_tests) in
    t ∙ sym u)
    (same_or_not a b)

-- XORI by 1 turns a truth value's word
pub turned : (t : Bool) → bit_xor (from_bool t) (extended 12 1) ≡ from_bool (not t)
turned true = refl
turned false = refl

-- ---- quotients and remainders

negated_small : (n : ℕ) → cast_unsigned w32 (neg_ℤ (pos n)) < 2 ^ 32
negated_small zero = omega arith
negated_small (suc n) = omega arith

quotient_small : (x y : ℤ) → SFits w32 x → cast_unsigned w32 (int_div x y) < 2 ^ 32
quotient_small (pos a) (pos b) f = (let h = f.sfits in omega (arith, h, div-le_self a b))
quotient_small (pos a) (negsuc b) f = negated_small (a / suc b)
quotient_small (negsuc a) (pos b) f = negated_small (suc a / b)
quotient_small (negsuc a) (negsuc b) f = (let h = f.sfits in omega (arith, h, div-le_self (suc a) (suc b)))

not_zero : (b : ℕ) → b ≢ 0 → (b == 0) ≡ false
not_zero b ne = grind (arith, nat_tests)

pub quotient_is : (a b : ℕ) → a < 2 ^ 32 → b ≢ 0 → quotient a b ≡ reckoned Quotient a b
quotient_is a b h ne =
    let q = cast_unsigned w32 (int_div (cast_signed w32 a) (cast_signed w32 b)) in
    ap (λ t. cond t (2 ^ 32 - 1) q) (not_zero b ne)
    ∙ sym (of_z-to_z w32 q (quotient_small (cast_signed w32 a) (cast_signed w32 b) (sfits_to_z {w = w32} (record { fits = h }))))

pub remainder_is : (a b : ℕ) → b ≢ 0 → remainder a b ≡ reckoned Remainder a b
remainder_is a b ne =
    ap (λ t. cond t a (cast_unsigned w32 (int_rem (cast_signed w32 a) (cast_signed w32 b)))) (not_zero b ne)
