-- The manual's words on signs, products, quotients, delay slots and pending loads, as facts: what Values and Step say has them, by
-- the contracts in src/arithmetic.rt and src/flow.rt.
use Rattle.std.specs.Prelude.{◌≡◌, ◌≢◌, ℕ, ◌+◌, ◌-◌, ◌*◌, ◌<◌, ◌^◌, nat_lt, if◌then◌else◌, ℤ, pos, ◌+ℤ◌, ◌-ℤ◌, ◌*ℤ◌, ◌≤ℤ◌, unsigned_abs}
use Rattle.mips_isa.specs.declared.instr.Instr.{Instr}
use Rattle.mips_machine.specs.declared.flow.Flow.{Flow}
use Rattle.mips_machine.specs.Hazards.{loads}
use Rattle.mips_machine.specs.Step.{led}
use Rattle.mips_machine.specs.Values.{signed}

-- sign extension keeps the number. This is the number that k bits stand for: the highest counts -2^(k - 1)
abbrev pub number_in : (k n : ℕ) → ℤ
number_in k n = if nat_lt n (2 ^ (k - 1)) then pos n else pos n -ℤ pos (2 ^ k)

-- MULT: HI and LO are the upper and the lower word of the full product of x and y, where the upper word is signed
abbrev pub IsProduct : (x y : ℤ) (hi lo : ℕ) → Type 0
IsProduct x y hi lo = x *ℤ y ≡ signed hi *ℤ pos (2 ^ 32) +ℤ pos lo

-- MULTU: the same where no number is signed
abbrev pub IsUnsignedProduct : (a b hi lo : ℕ) → Type 0
IsUnsignedProduct a b hi lo = a * b ≡ hi * 2 ^ 32 + lo

-- DIV: dividend = quotient times divisor plus remainder. The remainder is less than the divisor and has the sign of the dividend,
-- so the quotient is rounded towards zero
pub record IsDivision (a b quotient remainder : ℕ) : Type 0 where
  pub exact : signed a ≡ signed quotient *ℤ signed b +ℤ signed remainder
  pub small : unsigned_abs (signed remainder) < unsigned_abs (signed b)
  pub not_negative : pos 0 ≤ℤ signed a → pos 0 ≤ℤ signed remainder
  pub not_positive : signed a ≤ℤ pos 0 → signed remainder ≤ℤ pos 0

-- DIVU: the same where no number is signed
pub record IsUnsignedDivision (a b quotient remainder : ℕ) : Type 0 where
  pub exact : a ≡ b * quotient + remainder
  pub small : remainder < b

-- "Delayed Jump and Branch Instructions": the instruction that stands next, which is a jump's slot, comes before the one that the
-- jump leads to; and whatever that instruction is, the one that the jump leads to comes behind it
pub record SlotIsFirst (old new : Flow) (on : ℕ) : Type 0 where
  pub first : new.pc ≡ old.next
  pub second : (slot : Instr) (far : ℕ) → (led slot new far).pc ≡ on

-- "Delayed Load Instructions": behind a load its register is pending for one instruction, and no other is; behind the next one only
-- what that one loads is
pub record LoadPasses (instr : Instr) (new : Flow) : Type 0 where
  pub pending : new.loaded ≡ loads instr
  pub passed : (second : Instr) (far : ℕ) → (led second new far).loaded ≡ loads second
