-- Lists joined end to end, one after another.
use Rattle.std.proofs.Common.{◌≡◌, ◌≢◌, ◌≤◌, ◌<◌, ℕ, zero, suc, ◌+◌, List, [], ◌∷◌, ◌++◌, take, Some, refl, sym, ap, ◌∙◌, subst, arith, ⊎_elim}
use Rattle.std.proofs.Common.{get_or}
use Rattle.std.proofs.lemmas.List.{append-nil}
use Rattle.std.proofs.lemmas.List.Concat.{flat_map-append}
use Rattle.std.proofs.lemmas.Option.{slice_get-get_or}
use Rattle.std.specs.List.{flat_map}
use Rattle.std.specs.Prelude.{length, slice_get}
use Rattle.ec_base.proofs.Lists.{take_next}
use Rattle.ec_packing.specs.Packing.{up_to}
use Rattle.ec_world.proofs.Members.{has_back, has_either, has_first, has_front, has_later, has_none, has_parts}
use Rattle.ec_things.proofs.Put.{same_or_not}
use Rattle.ec_world.specs.Group.{Has}

pub take_all : {A : Type 0} (xs : List A) (n : ℕ) → length xs ≤ n → take n xs ≡ xs
take_all [] zero h = refl
take_all [] (suc n) h = refl
take_all (x ∷ xs) zero h = absurd (omega arith)
take_all {A} (x ∷ xs) (suc n) h = ap (λ (ys : List A). x ∷ ys) (take_all xs n (omega arith))

module _ {A B : Type 0} (f : A → List B) where
  -- what comes of one item more
  pub next_joined : (xs : List A) (i : ℕ) (x : A) → slice_get xs i ≡ Some x →
      flat_map f (take (i + 1) xs) ≡ flat_map f (take i xs) ++ f x
  next_joined xs i x e =
      ap (flat_map f) (take_next xs i x e) ∙ flat_map-append f (take i xs) (x ∷ [])
      ∙ ap (λ (ys : List B). flat_map f (take i xs) ++ ys) (append-nil (f x))

  pub more_joined : (xs : List A) (i : ℕ) (x : A) (old new more : List B) → slice_get xs i ≡ Some x → old ≡ flat_map f (take i xs) →
      f x ≡ more → new ≡ old ++ more → new ≡ flat_map f (take (i + 1) xs)
  more_joined xs i x old new more e so comes is =
      is ∙ ap (λ (ys : List B). ys ++ more) so ∙ ap (λ (ys : List B). flat_map f (take i xs) ++ ys) (sym comes)
      ∙ sym (next_joined xs i x e)

  pub none_joined : (xs : List A) (i : ℕ) (x : A) (old : List B) → slice_get xs i ≡ Some x → old ≡ flat_map f (take i xs) → f x ≡ [] →
      old ≡ flat_map f (take (i + 1) xs)
  none_joined xs i x old e so none = more_joined xs i x old old [] e so none (sym (append-nil old))

  pub all_joined : (xs : List A) (n : ℕ) → length xs ≤ n → flat_map f (take n xs) ≡ flat_map f xs
  all_joined xs n h = ap (flat_map f) (take_all xs n h)

  -- what comes of an item is there, and nothing else is
  pub joined_has : (xs : List A) (x : A) (y : B) → Has xs x → Has (f x) y → Has (flat_map f xs) y
  joined_has [] x y h g = absurd (has_none x h)
  joined_has (z ∷ xs) x y h g = ⊎_elim
      (λ (e : x ≡ z). has_front y (f z) (flat_map f xs) (subst (λ (u : A). Has (f u) y) e g))
      (λ (k : Has xs x). has_back y (f z) (flat_map f xs) (joined_has xs x y k g))
      (has_parts z x xs h)

  pub has_joined : (xs : List A) (y : B) → Has (flat_map f xs) y → (x : A) × (Has xs x × Has (f x) y)
  has_joined [] y h = absurd (has_none y h)
  has_joined (x ∷ xs) y h = ⊎_elim
      (λ (g : Has (f x) y). (x, (has_first x xs, g)))
      (λ (g : Has (flat_map f xs) y). let k = has_joined xs y g in (k.0, (has_later x k.0 xs k.1.0, k.1.1)))
      (has_either y (f x) (flat_map f xs) h)

-- ---- up to a number

module _ {A : Type 0} (f : ℕ → List A) where
  pub up_to_has : (n i : ℕ) (y : A) → i < n → Has (f i) y → Has (up_to f n) y
  up_to_has zero i y l h = absurd (omega arith)
  up_to_has (suc n) i y l h = ⊎_elim
      (λ (e : i ≡ n). has_back y (up_to f n) (f n) (subst (λ j. Has (f j) y) e h))
      (λ (ne : i ≢ n). has_front y (up_to f n) (f n) (up_to_has n i y (omega arith) h))
      (same_or_not i n)

  pub has_up_to : (n : ℕ) (y : A) → Has (up_to f n) y → (i : ℕ) × ((i < n) × Has (f i) y)
  has_up_to zero y h = absurd (has_none y h)
  has_up_to (suc n) y h = ⊎_elim
      (λ (g : Has (up_to f n) y). let k = has_up_to n y g in (k.0, (omega arith, k.1.1)))
      (λ (g : Has (f n) y). (n, (omega arith, g)))
      (has_either y (up_to f n) (f n) h)

-- ---- a number of a list, as it is read

-- an item of a list, as it is read
pub item_has : {A : Type 0} (xs : List A) (i : ℕ) (x : A) → x ≡ get_or xs i x → i < length xs → slice_get xs i ≡ Some x
item_has xs i x is l = slice_get-get_or xs i x l ∙ ap Some (sym is)

pub read_has : (xs : List ℕ) (i : ℕ) → i < length xs → slice_get xs i ≡ Some (get_or xs i 0)
read_has xs i h = slice_get-get_or xs i 0 h
