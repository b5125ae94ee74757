-- The manual's words on signs, products and quotients, as facts: what Values computes has them, by the contracts in
-- src/arithmetic.rt.
use Rattle.std.specs.Prelude.{◌≡◌, ◌≢◌, ℕ, ◌+◌, ◌-◌, ◌*◌, ◌<◌, ◌^◌, nat_lt, if◌then◌else◌, ℤ, pos, ◌+ℤ◌, ◌-ℤ◌, ◌*ℤ◌, ◌≤ℤ◌, unsigned_abs}
use Rattle.rv_machine.specs.Values.{signed}

-- section "Immediate Encoding Variants": sign extension keeps the number. This is the number that k bits stand for: the highest
-- counts -2^(k - 1)
abbrev pub number_in : (k n : ℕ) → ℤ
number_in k n = if nat_lt n (2 ^ (k - 1)) then pos n else pos n -ℤ pos (2 ^ k)

-- section "Multiplication Operations": upper and lower word of the full product of x and y, where the upper word is signed
abbrev pub IsProduct : (x y : ℤ) (upper lower : ℕ) → Type 0
IsProduct x y upper lower = x *ℤ y ≡ signed upper *ℤ pos (2 ^ 32) +ℤ pos lower

-- where no number is signed
abbrev pub IsUnsignedProduct : (a b upper lower : ℕ) → Type 0
IsUnsignedProduct a b upper lower = a * b ≡ upper * 2 ^ 32 + lower

-- section "Division Operations": dividend = divisor times quotient plus remainder. The remainder is less than the divisor and
-- has the sign of the dividend, so the quotient is rounded towards zero. Division by zero gives all ones and the dividend;
-- the least number divided by -1 gives the dividend and zero
pub record IsDivision (a b quotient remainder : ℕ) : Type 0 where
  pub exact : b ≢ 0 → (a ≡ 2 ^ 31 → b ≢ 2 ^ 32 - 1) → signed a ≡ signed quotient *ℤ signed b +ℤ signed remainder
  pub small : b ≢ 0 → unsigned_abs (signed remainder) < unsigned_abs (signed b)
  pub not_negative : b ≢ 0 → pos 0 ≤ℤ signed a → pos 0 ≤ℤ signed remainder
  pub not_positive : b ≢ 0 → signed a ≤ℤ pos 0 → signed remainder ≤ℤ pos 0
  pub by_zero : b ≡ 0 → (quotient ≡ 2 ^ 32 - 1) × (remainder ≡ a)
  pub overflow : a ≡ 2 ^ 31 → b ≡ 2 ^ 32 - 1 → (quotient ≡ a) × (remainder ≡ 0)

-- the same where no number is signed
pub record IsUnsignedDivision (a b quotient remainder : ℕ) : Type 0 where
  pub exact : b ≢ 0 → a ≡ b * quotient + remainder
  pub small : b ≢ 0 → remainder < b
  pub by_zero : b ≡ 0 → (quotient ≡ 2 ^ 32 - 1) × (remainder ≡ a)
