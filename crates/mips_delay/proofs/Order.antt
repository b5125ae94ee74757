-- The map of places, from both sides: words that stay keep their order, and each word of the new code comes from one of them.
use Rattle.std.proofs.Common.{◌≡◌, ◌⊎◌, ℕ, zero, suc, ◌<◌, ◌≤◌, Bool, true, false, cond, refl, ap, ◌∙◌, subst, inl, inr}
use Rattle.std.proofs.Common.{⊎_elim, arith}
use Rattle.mips_delay.proofs.Kept.{next_place}
use Rattle.mips_delay.specs.Places.{drops, is_within, place}

pub same_or_not : (x y : ℕ) → (x ≡ y) ⊎ ((x < y) ⊎ (y < x))
same_or_not zero zero = inl refl
same_or_not zero (suc y) = inr (inl (omega arith))
same_or_not (suc x) zero = inr (inr (omega arith))
same_or_not (suc x) (suc y) = ⊎_elim
    (λ (e : x ≡ y). inl (ap suc e))
    (λ (ne : (x < y) ⊎ (y < x)). ⊎_elim
    (λ (l : x < y). inr (inl (let h : suc x < suc y = omega (arith, l) in h)))
    (λ (l : y < x). inr (inr (let h : suc y < suc x = omega (arith, l) in h)))
    ne)
    (same_or_not x y)

-- ---- order

up_by : (b : Bool) (x : ℕ) → x ≤ cond b x (suc x)
up_by true x = omega arith
up_by false x = omega arith

place_up : (fills : ℕ → Bool) (i : ℕ) → place fills i ≤ place fills (suc i)
place_up fills i = up_by (drops fills i) (place fills i)

pub place_rises : (fills : ℕ → Bool) (i k : ℕ) → i ≤ k → place fills i ≤ place fills k
place_rises fills i zero h = let e : zero ≡ i = omega (arith, h) in subst (λ x. place fills x ≤ 0) e (omega arith)
place_rises fills i (suc k) h = ⊎_elim
    (λ (e : i ≡ suc k). subst (λ x. place fills i ≤ place fills x) e (omega arith))
    (λ (ne : (i < suc k) ⊎ (suc k < i)). ⊎_elim
    (λ (l : i < suc k).
    let low : i ≤ k = omega (arith, l) in
    let below = place_rises fills i k low in
    let up = place_up fills k in
    let all : place fills i ≤ place fills (suc k) = omega (arith, below, up) in
    all)
    (λ (l : suc k < i). absurd (omega (arith, l, h)))
    ne)
    (same_or_not i (suc k))

-- a word that stays comes before what was behind it
pub place_less : (fills : ℕ → Bool) (i k : ℕ) → drops fills i ≡ false → i < k → place fills i < place fills k
place_less fills i k stays h =
    let next = next_place fills i stays in
    let below : place fills (suc i) ≤ place fills k = place_rises fills (suc i) k (omega (arith, h)) in
    omega (arith, next, below)

pub less_of_place : (fills : ℕ → Bool) (i k : ℕ) → place fills i < place fills k → i < k
less_of_place fills i k h = ⊎_elim
    (λ (e : i ≡ k). absurd (let same = ap (place fills) e in omega (arith, same, h)))
    (λ (ne : (i < k) ⊎ (k < i)). ⊎_elim
    (λ (l : i < k). l)
    (λ (l : k < i). absurd (let up = place_rises fills k i (omega (arith, l)) in omega (arith, up, h)))
    ne)
    (same_or_not i k)

-- and no two that stay come to one place
pub same_of_place : (fills : ℕ → Bool) (i k : ℕ) → drops fills i ≡ false → drops fills k ≡ false → place fills i ≡ place fills k → i ≡ k
same_of_place fills i k stays too e = ⊎_elim
    (λ (same : i ≡ k). same)
    (λ (ne : (i < k) ⊎ (k < i)). ⊎_elim
    (λ (l : i < k). absurd (let less = place_less fills i k stays l in omega (arith, less, e)))
    (λ (l : k < i). absurd (let less = place_less fills k i too l in omega (arith, less, e)))
    ne)
    (same_or_not i k)

-- ---- what a word is

-- the first of a filled place, its branch, or outside
abbrev pub Which : (ℕ → Bool) → ℕ → Type 0
Which fills i =
    (fills i ≡ true) ⊎ (((j : ℕ) × (i ≡ suc j) × (fills j ≡ true)) ⊎ ((fills i ≡ false) × (is_within fills i ≡ false)))

pub which : (fills : ℕ → Bool) (i : ℕ) → drops fills i ≡ false → Which fills i
which fills i stays = by (fills i) refl
  where
    outside : (k : ℕ) → drops fills k ≡ false → fills k ≡ false → Which fills k
    outside zero s f = inr (inr (f, refl))
    outside (suc j) s f = behind (fills j) refl
      where
        behind : (b : Bool) → fills j ≡ b → Which fills (suc j)
        behind true e = inr (inl (j, refl, e))
        behind false e = inr (inr (f, ap (λ b. cond b true (drops fills (suc j))) e ∙ s))

    by : (b : Bool) → fills i ≡ b → Which fills i
    by true e = inl e
    by false e = outside i stays e

-- a word that goes is the no-op of a filled place
pub dropped_is : (fills : ℕ → Bool) (i : ℕ) → drops fills i ≡ true → (j : ℕ) × (i ≡ suc (suc j)) × (fills j ≡ true)
dropped_is fills zero h = absurd (cc)
dropped_is fills (suc zero) h = absurd (cc)
dropped_is fills (suc (suc j)) h = (j, refl, h)

pub goes_or_stays : (fills : ℕ → Bool) (i : ℕ) → (drops fills i ≡ true) ⊎ (drops fills i ≡ false)
goes_or_stays fills i = by (drops fills i)
  where
    by : (b : Bool) → (b ≡ true) ⊎ (b ≡ false)
    by true = inl refl
    by false = inr refl

-- ---- where a word of the new code comes from

-- no three words in a row go
abbrev pub GoApart : (ℕ → Bool) → Type 0
GoApart fills = (i : ℕ) → drops fills i ≡ true → drops fills (suc i) ≡ true → drops fills (suc (suc i)) ≡ false

module _ (fills : ℕ → Bool) (apart : GoApart fills) where
  -- from a word on, the first that stays
  abbrev staying : ℕ → ℕ
  staying i = cond (drops fills i) (cond (drops fills (suc i)) (suc (suc i)) (suc i)) i

  staying_stays : (i : ℕ) → drops fills (staying i) ≡ false
  staying_stays i = by (drops fills i) refl (drops fills (suc i)) refl
    where
      by : (b : Bool) → drops fills i ≡ b → (d : Bool) → drops fills (suc i) ≡ d →
          drops fills (cond b (cond d (suc (suc i)) (suc i)) i) ≡ false
      by true e true f = apart i e f
      by true e false f = f
      by false e d f = e

  gone_place : (i : ℕ) → drops fills i ≡ true → place fills (suc i) ≡ place fills i
  gone_place i e = ap (λ b. cond b (place fills i) (suc (place fills i))) e

  staying_place : (i : ℕ) → place fills (staying i) ≡ place fills i
  staying_place i = by (drops fills i) refl (drops fills (suc i)) refl
    where
      by : (b : Bool) → drops fills i ≡ b → (d : Bool) → drops fills (suc i) ≡ d →
          place fills (cond b (cond d (suc (suc i)) (suc i)) i) ≡ place fills i
      by true e true f = gone_place (suc i) f ∙ gone_place i e
      by true e false f = gone_place i e
      by false e d f = refl

  pub origin : ℕ → ℕ
  origin zero = zero
  origin (suc q) = staying (suc (origin q))

  pub origin_stays : (q : ℕ) → drops fills (origin q) ≡ false
  unfolding origin
  origin_stays zero = refl
  origin_stays (suc q) = staying_stays (suc (origin q))

  pub place_of_origin : (q : ℕ) → place fills (origin q) ≡ q
  unfolding origin
  place_of_origin zero = refl
  place_of_origin (suc q) =
      staying_place (suc (origin q)) ∙ next_place fills (origin q) (origin_stays q) ∙ ap suc (place_of_origin q)

  pub origin_of_place : (i : ℕ) → drops fills i ≡ false → origin (place fills i) ≡ i
  origin_of_place i stays =
      same_of_place fills (origin (place fills i)) i (origin_stays (place fills i)) stays (place_of_origin (place fills i))
