-- Sums and differences of signed words that don't overflow.
use Rattle.std.proofs.Common.{◌≡◌, ℕ, ◌<◌, ◌^◌, ◌∙◌, Bool, true, false, refl, arith}
use Rattle.std.specs.Prelude.{ℤ, pos, negsuc, ◌+ℤ◌, ◌-ℤ◌, FitsSigned}
use Rattle.std.specs.Bool.{OnFalse}
use Rattle.std.specs.Int.{w32}
use Rattle.std.proofs.lemmas.Bool.Decides.{nat_tests}
use Rattle.std.proofs.lemmas.Int.{ints, int_wrap_fits, wrapping_add-bits, wrapping_sub-bits}
use Rattle.mips_machine.specs.Values.{is_beyond, minus, plus, signed}

pub on_false : (b : Bool) (P : Type 0) → (b ≡ false → P) → OnFalse b P
on_false true P f = tt
on_false false P f = f refl

fits : (z : ℤ) → is_beyond z ≡ false → FitsSigned w32 z
fits (pos n) e = record { sfits = grind (arith, ints, nat_tests) }
fits (negsuc n) e = record { sfits = grind (arith, ints, nat_tests) }

pub sum_exact : (a b : ℕ) → a < 2 ^ 32 → b < 2 ^ 32 → is_beyond (signed a +ℤ signed b) ≡ false → signed (plus a b) ≡ signed a +ℤ signed b
sum_exact a b h k e = wrapping_add-bits w32 a b h k ∙ int_wrap_fits w32 (signed a +ℤ signed b) (fits (signed a +ℤ signed b) e)

pub difference_exact : (a b : ℕ) → a < 2 ^ 32 → b < 2 ^ 32 → is_beyond (signed a -ℤ signed b) ≡ false →
    signed (minus a b) ≡ signed a -ℤ signed b
difference_exact a b h k e = wrapping_sub-bits w32 a b h k ∙ int_wrap_fits w32 (signed a -ℤ signed b) (fits (signed a -ℤ signed b) e)
