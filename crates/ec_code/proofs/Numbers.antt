-- Arithmetic gives numbers in range.
use Rattle.std.proofs.Common.{◌≡◌, ℕ, suc, ◌-◌, ◌^◌, ◌<◌, ◌≤◌, arith, Bool, true, false, if◌then◌else◌, Option, Some, None, ℤ}
use Rattle.std.proofs.Common.{pos, negsuc, sym, subst, ⊎_elim}
use Rattle.std.proofs.lemmas.Bool.{cases_lt}
use Rattle.std.proofs.lemmas.Bool.Decides.{nat_tests}
use Rattle.std.proofs.lemmas.Int.{ints}
use Rattle.std.specs.Int.{w32, cast_signed, int_wrapping_div}
use Rattle.std.specs.Int.Signed.{mag_rem}
use Rattle.std.specs.Prelude.{FitsSigned, int_rem}
use Rattle.ec_code.specs.Steps.{computed, on_numbers, on_two, unless_zero}
use Rattle.ec_code.specs.declared.code.Arithmetic.{Arithmetic}
use Rattle.ec_code.specs.declared.code.Arithmetic.TheVariants.{Sum, Difference, Product, Quotient, Remainder}
use Rattle.ec_world.specs.Same.{is_zero}
use Rattle.ec_world.specs.declared.value.Value.{Value}
use Rattle.ec_world.specs.declared.value.Value.TheVariants.{Int}
use Rattle.ec_code.specs.RangesValues.{GivenInRange, InRange}

low : (n : ℕ) → n < 2 ^ 31 → cast_signed w32 n ≡ pos n
low n h = grind (arith, ints, nat_tests)

high : (n : ℕ) → 2 ^ 31 ≤ n → cast_signed w32 n ≡ negsuc (2 ^ 32 - suc n)
high n h = grind (arith, ints, nat_tests)

low_fits : (n : ℕ) → n < 2 ^ 31 → FitsSigned w32 (pos n)
low_fits n h = record { sfits = h }

high_fits : (n : ℕ) → 2 ^ 31 ≤ n → FitsSigned w32 (negsuc (2 ^ 32 - suc n))
high_fits n h = record { sfits = omega arith }

-- what is left in 32 bits
pub wrapped : (n : ℕ) → FitsSigned w32 (cast_signed w32 n)
wrapped n =
    ⊎_elim (λ lt. subst (λ z. FitsSigned w32 z) (sym (low n lt)) (low_fits n lt))
    (λ le. subst (λ z. FitsSigned w32 z) (sym (high n le)) (high_fits n le)) (cases_lt n (2 ^ 31))

pub remainder : (a b : ℤ) → FitsSigned w32 a → FitsSigned w32 (int_rem a b)
remainder a b f = record { sfits = omega (arith, mag_rem a b, f.sfits) }

unless : (b z : ℤ) → FitsSigned w32 z → GivenInRange (unless_zero b z)
unless b z f = by (is_zero b)
  where
    by : (t : Bool) → GivenInRange (if t then None else Some (Int z))
    by true = tt
    by false = f

pub computed_ranged : (how : Arithmetic) (a b : ℤ) → FitsSigned w32 a → GivenInRange (computed how a b)
computed_ranged Sum a b f = wrapped _
computed_ranged Difference a b f = wrapped _
computed_ranged Product a b f = wrapped _
computed_ranged Quotient a b f = unless b (int_wrapping_div w32 a b) (wrapped _)
computed_ranged Remainder a b f = unless b (int_rem a b) (remainder a b f)

on_values : (how : Arithmetic) (v u : Value) → InRange v → GivenInRange (on_numbers (computed how) v u)
on_values how (Int a) (Int b) f = computed_ranged how a b f
on_values how _ _ f = tt

pub on_two_ranged : (how : Arithmetic) (v u : Option Value) → GivenInRange v → GivenInRange (on_two (on_numbers (computed how)) v u)
on_two_ranged how (Some v) (Some u) f = on_values how v u f
on_two_ranged how (Some v) None f = tt
on_two_ranged how None u f = tt
