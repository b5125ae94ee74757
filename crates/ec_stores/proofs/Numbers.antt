-- Lists of numbers: what stands where when one is put behind them, and numbers that are all apart.
use Rattle.std.proofs.Common.{◌≡◌, ◌≢◌, ℕ, zero, suc, ◌+◌, ◌<◌, List, [], ◌∷◌, ◌++◌, length, Some, refl, sym, ap, ◌∙◌, subst, arith}
use Rattle.std.proofs.Common.{◌⊎◌, inl, inr, ⊎_elim}
use Rattle.std.specs.Prelude.{slice_get, take}
use Rattle.std.specs.List.{AllByRecursion}
use Rattle.ec_base.proofs.Lists.{get_within}
use Rattle.ec_memory.specs.Store.{AreApart}
use Rattle.ec_world.proofs.Procs.{get_end, get_but_end}
use Rattle.ec_world.proofs.Keys.{same_or_not}
use Rattle.ec_world.specs.Group.{Has}
use Rattle.ec_stores.specs.Lists.{IsOnce}

module _ {A : Type 0} where
  -- an item of a longer list is an old one or the new one
  pub end_or : (xs : List A) (x : A) (i : ℕ) (b : A) → slice_get (xs ++ x ∷ []) i ≡ Some b →
      (slice_get xs i ≡ Some b) ⊎ ((i ≡ length xs) × (b ≡ x))
  end_or xs x i b e = ⊎_elim
      (λ (same : i ≡ length xs).
      let h : slice_get (xs ++ x ∷ []) i ≡ Some x = ap (slice_get (xs ++ x ∷ [])) same ∙ get_end xs x in
      inr (same, cc))
      (λ (ne : i ≢ length xs). inl (sym (get_but_end xs x i ne) ∙ e))
      (same_or_not i (length xs))

  pub kept_end : (xs : List A) (x : A) (i : ℕ) (b : A) → slice_get xs i ≡ Some b → slice_get (xs ++ x ∷ []) i ≡ Some b
  kept_end xs x i b e = let l = get_within xs i b e in let n : i ≢ length xs = omega arith in get_but_end xs x i n ∙ e

  pub all_has : (P : A → Type 0) (xs : List A) (x : A) → AllByRecursion P xs → Has xs x → P x
  all_has P xs x all h = by xs h.at all h.is
    where
      by : (ys : List A) (i : ℕ) → AllByRecursion P ys → slice_get ys i ≡ Some x → P x
      by [] i a e = cc
      by (y ∷ ys) zero a e = (let is : y ≡ x = cc in subst P is a.0)
      by (y ∷ ys) (suc i) a e = by ys i a.1 e

  pub all_from : (P : A → Type 0) (xs : List A) → ((x : A) → Has xs x → P x) → AllByRecursion P xs
  all_from P [] h = tt
  all_from P (x ∷ xs) h = (h x (record { at = 0; is = refl }), all_from P xs (λ y g. h y (record { at = suc g.at; is = g.is })))

  -- the first of a list, or one behind it
  pub first_or : (x : A) (xs : List A) (b : A) → Has (x ∷ xs) b → (b ≡ x) ⊎ Has xs b
  first_or x xs b h = by h.at h.is
    where
      by : (i : ℕ) → slice_get (x ∷ xs) i ≡ Some b → (b ≡ x) ⊎ Has xs b
      by zero e = inl cc
      by (suc i) e = inr (record { at = i; is = e })

  pub one_item : (xs : List A) (x : A) → length xs ≡ 1 → slice_get xs 0 ≡ Some x → xs ≡ x ∷ []
  one_item [] x l e = cc
  one_item (y ∷ []) x l e = cc
  one_item (y ∷ z ∷ zs) x l e = absurd (omega arith)

  pub length_more : (xs : List A) (x : A) → length (xs ++ x ∷ []) ≡ suc (length xs)
  length_more [] x = refl
  length_more (z ∷ zs) x = ap suc (length_more zs x)

  pub length_both : (xs ys : List A) → length (xs ++ ys) ≡ length xs + length ys
  length_both [] ys = omega arith
  length_both (z ∷ zs) ys = (let t = length_both zs ys in omega arith)

  pub end_of : (xs : List A) (x : A) (ys : List A) → (xs ++ x ∷ []) ++ ys ≡ xs ++ x ∷ ys
  end_of [] x ys = refl
  end_of (z ∷ zs) x ys = ap (λ l. z ∷ l) (end_of zs x ys)

  pub has_front : (xs ys : List A) (b : A) → Has xs b → Has (xs ++ ys) b
  has_front xs ys b h = record { at = h.at; is = by xs h.at h.is }
    where
      by : (zs : List A) (i : ℕ) → slice_get zs i ≡ Some b → slice_get (zs ++ ys) i ≡ Some b
      by [] i e = cc
      by (z ∷ zs) zero e = e
      by (z ∷ zs) (suc i) e = by zs i e

  pub has_back : (xs ys : List A) (b : A) → Has ys b → Has (xs ++ ys) b
  has_back [] ys b h = h
  has_back (x ∷ xs) ys b h = let t = has_back xs ys b h in record { at = suc t.at; is = t.is }

  -- an item of the first n is one of all
  pub taken_get : (xs : List A) (n j : ℕ) (b : A) → slice_get (take n xs) j ≡ Some b → (j < n) × (slice_get xs j ≡ Some b)
  taken_get [] zero j b e = cc
  taken_get [] (suc n) j b e = cc
  taken_get (x ∷ xs) zero j b e = cc
  taken_get (x ∷ xs) (suc n) zero b e = (omega arith, e)
  taken_get (x ∷ xs) (suc n) (suc j) b e = (let t = taken_get xs n j b e in (omega arith, t.1))

-- ---- numbers that are all apart

pub apart_both : (xs ys : List ℕ) (b : ℕ) → AreApart (xs ++ ys) → Has xs b → Has ys b → ⊥
apart_both xs ys b apart h k = by xs h.at apart h.is
  where
    by : (zs : List ℕ) (i : ℕ) → AreApart (zs ++ ys) → slice_get zs i ≡ Some b → ⊥
    by [] i a e = cc
    by (z ∷ zs) zero a e = (let is : z ≡ b = cc in all_has (λ y. z ≢ y) (zs ++ ys) b a.0 (has_back zs ys b k) is)
    by (z ∷ zs) (suc i) a e = by zs i a.1 e

pub apart_once : (xs ys : List ℕ) → AreApart (xs ++ ys) → IsOnce xs
apart_once [] ys apart i j b e f = cc
apart_once (x ∷ xs) ys apart zero zero b e f = refl
apart_once (x ∷ xs) ys apart zero (suc j) b e f =
    let is : x ≡ b = cc in
    absurd (all_has (λ y. x ≢ y) (xs ++ ys) b apart.0 (has_front xs ys b (record { at = j; is = f })) is)
apart_once (x ∷ xs) ys apart (suc i) zero b e f =
    let is : x ≡ b = cc in
    absurd (all_has (λ y. x ≢ y) (xs ++ ys) b apart.0 (has_front xs ys b (record { at = i; is = e })) is)
apart_once (x ∷ xs) ys apart (suc i) (suc j) b e f = ap suc (apart_once xs ys apart.1 i j b e f)

-- what stands at place n isn't among the first n
pub not_before : (xs : List ℕ) (n b : ℕ) → IsOnce xs → slice_get xs n ≡ Some b → Has (take n xs) b → ⊥
not_before xs n b once e h =
    let t = taken_get xs n h.at b h.is in
    let same : h.at ≡ n = once h.at n b t.1 e in
    let l = t.0 in
    let f : ⊥ = omega arith in
    f
