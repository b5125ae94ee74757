-- Places of numbers among others, by the maps that hold them.
use Rattle.std.proofs.Common.{◌≡◌, ℕ, suc, ◌+◌, ◌<◌, ◌==◌, Bool, true, false, if◌then◌else◌, cond, List, [], ◌∷◌, length, map, drop}
use Rattle.std.proofs.Common.{Some, get_or, drop-cons, refl, sym, ap, subst, ◌∙◌, arith}
use Rattle.std.specs.BTreeMap.{BTreeMap, Updates, get}
use Rattle.std.specs.Cmp.{unsigned_tied}
use Rattle.std.specs.Option.{unwrap_or}
use Rattle.std.specs.Ordering.{nat_cmp}
use Rattle.ec_core.specs.declared.Class.{Class}
use Rattle.ec_core.specs.declared.Constant.{Constant}
use Rattle.ec_expressions.specs.Numbers.{ArePlacesFrom, class_numbers, constant_numbers, place_from}
use Rattle.ec_meaning.specs.Programs.{class_from, constant_from}

-- one number more, before the others
entered : (old new : BTreeMap ℕ ℕ) (n m : ℕ) (ms : List ℕ) → Updates nat_cmp old new m (Some n) →
    ArePlacesFrom (suc n) old ms → ArePlacesFrom n new (m ∷ ms)
entered old new n m ms u h = λ k.
    u.0 k
    ∙ ap (λ b. cond b (Some n) (get nat_cmp old k)) (unsigned_tied m k)
    ∙ ap (λ o. cond (m == k) (Some n) o) (h k)

module _ {A : Type 0} (number : A → ℕ) where
  -- one item more, before those behind it
  pub one_more : (xs : List A) (n k : ℕ) (x : A) (old new : BTreeMap ℕ ℕ) → k ≡ n + 1 → n < length xs → x ≡ get_or xs n x →
      Updates nat_cmp old new (number x) (Some n) → ArePlacesFrom k old (map number (drop k xs)) →
      ArePlacesFrom n new (map number (drop n xs))
  one_more xs n k x old new next within is u h =
      let more : k ≡ suc n = omega arith in
      let split : drop n xs ≡ x ∷ drop k xs =
      drop-cons xs n x within ∙ ap (λ y. y ∷ drop (suc n) xs) (sym is) ∙ ap (λ j. x ∷ drop j xs) (sym more) in
      subst (λ ys. ArePlacesFrom n new (map number ys)) (sym split)
      (entered old new n (number x) (map number (drop k xs)) u
      (subst (λ j. ArePlacesFrom j old (map number (drop k xs))) more h))

  -- the place of an item by its number, and where there is none, how many there are
  module _ (from : ℕ → List A → ℕ → ℕ) (none : (n k : ℕ) → from n [] k ≡ n)
      (next : (n : ℕ) (x : A) (xs : List A) (k : ℕ) → from n (x ∷ xs) k ≡ (if number x == k then n else from (suc n) xs k)) where
    found_from : (n : ℕ) (xs : List A) (k : ℕ) → unwrap_or (place_from n (map number xs) k) (n + length xs) ≡ from n xs k
    found_from n [] k = let e : n + 0 ≡ n = omega arith in e ∙ sym (none n k)
    found_from n (x ∷ xs) k = by (number x == k) (found_from (suc n) xs k) ∙ sym (next n x xs k)
      where
        count : n + suc (length xs) ≡ suc n + length xs
        count = omega arith

        by : (b : Bool) → unwrap_or (place_from (suc n) (map number xs) k) (suc n + length xs) ≡ from (suc n) xs k →
            unwrap_or (if b then Some n else place_from (suc n) (map number xs) k) (n + suc (length xs))
            ≡ (if b then n else from (suc n) xs k)
        by true behind = refl
        by false behind = ap (unwrap_or (place_from (suc n) (map number xs) k)) count ∙ behind

    found : (xs : List A) (k : ℕ) → unwrap_or (place_from 0 (map number xs) k) (length xs) ≡ from 0 xs k
    found xs k =
        let e : length xs ≡ 0 + length xs = omega arith in
        ap (unwrap_or (place_from 0 (map number xs) k)) e ∙ found_from 0 xs k

pub constant_found : (cs : List Constant) (k : ℕ) →
    unwrap_or (place_from 0 (constant_numbers cs) k) (length cs) ≡ constant_from 0 cs k
constant_found = found (λ c. c.number) constant_from (λ n k. refl) (λ n c cs k. refl)

pub class_found : (cs : List Class) (k : ℕ) → unwrap_or (place_from 0 (class_numbers cs) k) (length cs) ≡ class_from 0 cs k
class_found = found (λ c. c.number) class_from (λ n k. refl) (λ n c cs k. refl)
