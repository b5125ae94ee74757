-- The upper word of a product, and the whole product.
use Rattle.std.proofs.Common.{◌≡◌, ℕ, suc, ◌+◌, ◌-◌, ◌*◌, ◌/◌, ◌%◌, ◌^◌, ◌<◌, ◌≤◌, arith, ap, sym, ◌∙◌, ⊎_elim, cond, true, false}
use Rattle.std.specs.Prelude.{ℤ, pos, negsuc, ◌+ℤ◌, ◌*ℤ◌, unsigned_abs, nat_lt, FitsSigned}
use Rattle.std.specs.Int.{w64, cast_signed, int_wrap}
use Rattle.std.proofs.lemmas.Bool.{cases_lt}
use Rattle.std.proofs.lemmas.Bool.Decides.{nat_tests}
use Rattle.std.proofs.lemmas.Int.{ints, int_wrap_fits, wrapping_mul-bits, fits_signed_mul}
use Rattle.std.proofs.lemmas.Nat.{mul-mod}
use Rattle.rv_machine.specs.Laws.{IsProduct}
use Rattle.rv_machine.specs.Values.{signed, wide, upper}

-- ---- a word at 64 bits

wide_below : (a : ℕ) → a < 2 ^ 32 → wide a < 2 ^ 64
wide_below a h = grind (arith, nat_tests)

wide_low : (a : ℕ) → a < 2 ^ 32 → wide a % 2 ^ 32 ≡ a
wide_low a h = grind (arith, nat_tests)

-- a word that isn't negative, and one that is
pub low_signed : (n : ℕ) → n < 2 ^ 31 → signed n ≡ pos n
low_signed n h = grind (arith, ints, nat_tests)

pub high_signed : (n : ℕ) → 2 ^ 31 ≤ n → n < 2 ^ 32 → signed n ≡ negsuc (2 ^ 32 - suc n)
high_signed n h k = grind (arith, ints, nat_tests)

low_signed_64 : (n : ℕ) → n < 2 ^ 63 → cast_signed w64 n ≡ pos n
low_signed_64 n h = grind (arith, ints, nat_tests)

high_signed_64 : (n : ℕ) → 2 ^ 63 ≤ n → n < 2 ^ 64 → cast_signed w64 n ≡ negsuc (2 ^ 64 - suc n)
high_signed_64 n h k = grind (arith, ints, nat_tests)

signed_wide : (a : ℕ) → a < 2 ^ 32 → cast_signed w64 (wide a) ≡ signed a
signed_wide a h = ⊎_elim
    (λ lt. let t : nat_lt a (2 ^ 31) ≡ true =
    grind (arith, nat_tests) in ap (λ b. cast_signed w64 (cond b a (a + (2 ^ 64 - 2 ^ 32)))) t ∙ low_signed_64 a (omega arith)
    ∙ sym (low_signed a lt))
    (λ le. let t : nat_lt a (2 ^ 31) ≡ false =
    grind (arith, nat_tests) in ap (λ b. cast_signed w64 (cond b a (a + (2 ^ 64 - 2 ^ 32)))) t
    ∙ high_signed_64 (a + (2 ^ 64 - 2 ^ 32)) (omega arith) (omega arith) ∙ ap negsuc (omega arith) ∙ sym (high_signed a le h))
    (cases_lt a (2 ^ 31))

signed_small : (a : ℕ) → a < 2 ^ 32 → unsigned_abs (signed a) ≤ 2 ^ 31
signed_small a h = omega (arith, ints)

-- ---- a number of 64 bits by its two words

by_words : (p : ℕ) → p < 2 ^ 64 → cast_signed w64 p ≡ signed (p / 2 ^ 32) *ℤ pos (2 ^ 32) +ℤ pos (p % 2 ^ 32)
by_words p h = ⊎_elim
    (λ lt. low_signed_64 p lt
    ∙ sym (ap (λ z. z *ℤ pos (2 ^ 32) +ℤ pos (p % 2 ^ 32)) (low_signed (p / 2 ^ 32) (omega arith)) ∙ ap pos (omega arith)))
    (λ le. high_signed_64 p le h
    ∙ sym (ap (λ z. z *ℤ pos (2 ^ 32) +ℤ pos (p % 2 ^ 32)) (high_signed (p / 2 ^ 32) (omega arith) (omega arith))
    ∙ omega (arith, ints)))
    (cases_lt p (2 ^ 63))

low_word : (a b c d : ℕ) → a % 2 ^ 32 ≡ c → b % 2 ^ 32 ≡ d → a * b % 2 ^ 64 % 2 ^ 32 ≡ c * d % 2 ^ 32
low_word a b c d e f =
    let cut : a * b % 2 ^ 64 % 2 ^ 32 ≡ a * b % 2 ^ 32 = omega arith in
    cut ∙ mul-mod a b (2 ^ 32) ∙ ap (λ x. x * (b % 2 ^ 32) % 2 ^ 32) e ∙ ap (λ x. c * x % 2 ^ 32) f

-- ---- products

product_of : (m n a b : ℕ) (x y : ℤ) → m < 2 ^ 64 → n < 2 ^ 64 → cast_signed w64 m ≡ x → cast_signed w64 n ≡ y → m % 2 ^ 32 ≡ a →
    n % 2 ^ 32 ≡ b → FitsSigned w64 (x *ℤ y) → IsProduct x y (upper m n) (a * b % 2 ^ 32)
product_of m n a b x y hm hn ex ey ea eb fits =
    let p = m * n % 2 ^ 64 in
    let whole : cast_signed w64 p ≡ x *ℤ y =
    wrapping_mul-bits w64 m n hm hn ∙ ap (λ z. int_wrap w64 (z *ℤ cast_signed w64 n)) ex ∙ ap (λ z. int_wrap w64 (x *ℤ z)) ey
    ∙ int_wrap_fits w64 (x *ℤ y) fits in
    sym whole ∙ by_words p (omega arith) ∙ ap (λ l. signed (upper m n) *ℤ pos (2 ^ 32) +ℤ pos l) (low_word m n a b ea eb)

pub product_signed : (a b : ℕ) → a < 2 ^ 32 → b < 2 ^ 32 → IsProduct (signed a) (signed b) (upper (wide a) (wide b)) (a * b % 2 ^ 32)
product_signed a b h k =
    product_of (wide a) (wide b) a b (signed a) (signed b) (wide_below a h) (wide_below b k) (signed_wide a h) (signed_wide b k)
    (wide_low a h) (wide_low b k)
    (fits_signed_mul w64 (signed a) (signed b) (2 ^ 31) (2 ^ 31) (signed_small a h) (signed_small b k) (omega arith))

pub product_mixed : (a b : ℕ) → a < 2 ^ 32 → b < 2 ^ 32 → IsProduct (signed a) (pos b) (upper (wide a) b) (a * b % 2 ^ 32)
product_mixed a b h k =
    product_of (wide a) b a b (signed a) (pos b) (wide_below a h) (omega arith) (signed_wide a h) (omega (arith, ints))
    (wide_low a h) (omega arith)
    (fits_signed_mul w64 (signed a) (pos b) (2 ^ 31) (2 ^ 32 - 1) (signed_small a h) (omega arith) (omega arith))
