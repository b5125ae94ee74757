-- Quotient and remainder of signed words.
use Rattle.std.proofs.Math.Nat.{div-le_self, div-lt_iff_lt-mul}
use Rattle.std.specs.Int.Signed.{mag_rem}
use Rattle.std.proofs.Common.{◌≡◌, ◌≢◌, ℕ, zero, suc, ◌-◌, ◌*◌, ◌/◌, ◌^◌, ◌<◌, ◌≤◌, arith, ap, sym, ◌∙◌, subst, cond, false, refl, ⊎_elim}
use Rattle.std.specs.Prelude.{ℤ, pos, negsuc, ◌≤ℤ◌, neg_ℤ, ◌+ℤ◌, ◌*ℤ◌, unsigned_abs, ◌==◌, FitsSigned, int_div, int_rem}
use Rattle.std.specs.Int.{w32}
use Rattle.std.proofs.lemmas.Bool.{cases_lt}
use Rattle.std.proofs.lemmas.Bool.Decides.{nat_tests}
use Rattle.std.proofs.lemmas.Int.{ints, to_z-of_z, of_z-to_z, quot-rem, rem_below}
use Rattle.mips_machine.proofs.Products.{low_signed, high_signed}
use Rattle.mips_machine.specs.Laws.{IsDivision}
use Rattle.mips_machine.specs.Values.{signed, unsigned, quotient, remainder}

-- ---- what fits a word

pub signed_fits : (a : ℕ) → a < 2 ^ 32 → FitsSigned w32 (signed a)
signed_fits a h = ⊎_elim
    (λ lt. let f : FitsSigned w32 (pos a) = record { sfits = lt } in subst (λ z. FitsSigned w32 z) (sym (low_signed a lt)) f)
    (λ le. let f : FitsSigned w32 (negsuc (2 ^ 32 - suc a)) =
    record { sfits = omega arith } in subst (λ z. FitsSigned w32 z) (sym (high_signed a le h)) f)
    (cases_lt a (2 ^ 31))

negated_fits : (n : ℕ) → n ≤ 2 ^ 31 → FitsSigned w32 (neg_ℤ (pos n))
negated_fits zero h = record { sfits = omega arith }
negated_fits (suc n) h = record { sfits = omega arith }

-- the absolute values suc a and suc b
below_quotient : (a b : ℕ) → a < 2 ^ 31 → (a ≡ 2 ^ 31 - 1 → b ≡ 0 → ⊥) → suc a < 2 ^ 31 * suc b
below_quotient a zero h far = let ne : a ≢ 2 ^ 31 - 1 = λ e. far e refl in omega arith
below_quotient a (suc b) h far = omega arith

-- only the least number by -1 has a quotient that doesn't fit
pub quotient_fits : (x y : ℤ) → FitsSigned w32 x → 0 < unsigned_abs y → (x ≡ negsuc (2 ^ 31 - 1) → y ≢ negsuc 0) →
    FitsSigned w32 (int_div x y)
quotient_fits (pos a) (pos b) f g far = record { sfits = omega (arith, f.sfits, div-le_self a b) }
quotient_fits (pos a) (negsuc b) f g far = negated_fits (a / suc b) (omega (arith, f.sfits, div-le_self a (suc b)))
quotient_fits (negsuc a) (pos b) f g far = negated_fits (suc a / b) (omega (arith, f.sfits, div-le_self (suc a) b))
quotient_fits (negsuc a) (negsuc b) f g far =
    let below = below_quotient a b f.sfits (λ e k. far (ap negsuc e) (ap negsuc k)) in
    record { sfits = (div-lt_iff_lt-mul (omega arith)).1 below }

pub remainder_fits : (x y : ℤ) → FitsSigned w32 x → FitsSigned w32 (int_rem x y)
remainder_fits x y f = record { sfits = omega (arith, mag_rem x y, f.sfits) }

-- ---- signs

pub not_zero : (b : ℕ) → b < 2 ^ 32 → b ≢ 0 → 0 < unsigned_abs (signed b)
not_zero b h ne = ⊎_elim
    (λ lt. subst (λ z. 0 < unsigned_abs z) (sym (low_signed b lt)) (omega arith))
    (λ le. subst (λ z. 0 < unsigned_abs z) (sym (high_signed b le h)) (omega arith))
    (cases_lt b (2 ^ 31))

remainder_not_negative : (x y : ℤ) → pos 0 ≤ℤ x → pos 0 ≤ℤ int_rem x y
remainder_not_negative (pos a) y h = omega (arith, ints)
remainder_not_negative (negsuc a) y h = absurd (omega (arith, ints))

remainder_not_positive : (x y : ℤ) → x ≤ℤ pos 0 → int_rem x y ≤ℤ pos 0
remainder_not_positive (pos zero) y h = omega (arith, ints)
remainder_not_positive (pos (suc a)) y h = absurd (omega (arith, ints))
remainder_not_positive (negsuc a) y h = omega (arith, ints)

-- ---- the division

signed_quotient : (a b : ℕ) → a < 2 ^ 32 → b < 2 ^ 32 → b ≢ 0 → (a ≡ 2 ^ 31 → b ≢ 2 ^ 32 - 1) →
    signed (quotient a b) ≡ int_div (signed a) (signed b)
signed_quotient a b h k ne far =
    let fits = quotient_fits (signed a) (signed b) (signed_fits a h) (not_zero b k ne)
    (λ e f. far (sym (of_z-to_z w32 a h) ∙ ap unsigned e) (sym (of_z-to_z w32 b k) ∙ ap unsigned f)) in
    to_z-of_z w32 (int_div (signed a) (signed b)) fits

signed_remainder : (a b : ℕ) → a < 2 ^ 32 → b ≢ 0 → signed (remainder a b) ≡ int_rem (signed a) (signed b)
signed_remainder a b h ne =
    to_z-of_z w32 (int_rem (signed a) (signed b)) (remainder_fits (signed a) (signed b) (signed_fits a h))

pub division_is : (a b : ℕ) → a < 2 ^ 32 → b < 2 ^ 32 → b ≢ 0 → (a ≡ 2 ^ 31 → b ≢ 2 ^ 32 - 1) →
    IsDivision a b (quotient a b) (remainder a b)
division_is a b h k ne far = record {
  exact = sym
      (ap (λ z. z *ℤ signed b +ℤ signed (remainder a b)) (signed_quotient a b h k ne far)
      ∙ ap (λ z. int_div (signed a) (signed b) *ℤ signed b +ℤ z) (signed_remainder a b h ne) ∙ quot-rem (signed a) (signed b));
  small = subst (λ z. unsigned_abs z < unsigned_abs (signed b)) (sym (signed_remainder a b h ne))
      (rem_below (signed a) (signed b) (not_zero b k ne));
  not_negative = λ s. subst (λ z. pos 0 ≤ℤ z) (sym (signed_remainder a b h ne)) (remainder_not_negative (signed a) (signed b) s);
  not_positive = λ s. subst (λ z. z ≤ℤ pos 0) (sym (signed_remainder a b h ne)) (remainder_not_positive (signed a) (signed b) s);
}
