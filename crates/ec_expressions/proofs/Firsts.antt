-- The first of several, and those behind it.
use Rattle.std.proofs.Common.{◌≡◌, ℕ, zero, suc, ◌<◌, ◌≤◌, Bool, false, refl, arith}
use Rattle.ec_code.specs.declared.code.Operand.{Operand}
use Rattle.ec_expressions.specs.Emitting.{operand_at, own_at}
use Rattle.ec_emission.specs.Leaves.{temporary}

pub own_first : (n : ℕ) (b : Bool) → n ≤ 0 → own_at n b ≡ b
own_first zero b e = refl
own_first (suc n) b e = absurd (omega arith)

pub own_later : (n : ℕ) (b : Bool) → 0 < n → own_at n b ≡ false
own_later zero b e = absurd (omega arith)
own_later (suc n) b e = refl

pub operand_first : (n : ℕ) (left : Operand) (h : ℕ) → n ≤ 0 → operand_at n left h ≡ left
operand_first zero left h e = refl
operand_first (suc n) left h e = absurd (omega arith)

pub operand_later : (n : ℕ) (left : Operand) (h : ℕ) → 0 < n → operand_at n left h ≡ temporary h
operand_later zero left h e = absurd (omega arith)
operand_later (suc n) left h e = refl
