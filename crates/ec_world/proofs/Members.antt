-- Members of lists, rising lists, and the numbers of what is marked.
use Rattle.std.proofs.Common.{◌≡◌, ℕ, zero, suc, ◌+◌, ◌<◌, ◌≤◌, ◌⊎◌, inl, inr, ⊎_elim, Bool, true, false, List, [], ◌∷◌, ◌++◌}
use Rattle.std.proofs.Common.{length, Option, Some, None, refl, arith}
use Rattle.std.specs.Prelude.{slice_get, IsSome}
use Rattle.ec_base.proofs.Lists.{get_within, get_there}
use Rattle.ec_world.specs.declared.object.ObjectRec.{ObjectRec}
use Rattle.ec_world.specs.declared.common.Common.{Common}
use Rattle.ec_world.specs.Objects.{object_at}
use Rattle.ec_world.specs.Group.{Has, IsRising, IsGroup, MarksGroup, mark_at, marked_from}

module _ {A : Type 0} where
  pub has_none : (x : A) → Has [] x → ⊥
  has_none x h = let e = h.is in cc

  pub has_first : (x : A) (xs : List A) → Has (x ∷ xs) x
  has_first x xs = record { at = 0; is = refl }

  pub has_later : (y x : A) (xs : List A) → Has xs x → Has (y ∷ xs) x
  has_later y x xs h = record { at = suc h.at; is = h.is }

  has_at : (y x : A) (xs : List A) (i : ℕ) → slice_get (y ∷ xs) i ≡ Some x → (x ≡ y) ⊎ Has xs x
  has_at y x xs zero e = inl (cc)
  has_at y x xs (suc i) e = inr (record { at = i; is = e })

  pub has_parts : (y x : A) (xs : List A) → Has (y ∷ xs) x → (x ≡ y) ⊎ Has xs x
  has_parts y x xs h = has_at y x xs h.at h.is

  pub has_one : (y x : A) → Has (y ∷ []) x → x ≡ y
  has_one y x h = ⊎_elim (λ (e : x ≡ y). e) (λ (k : Has [] x). absurd (has_none x k)) (has_parts y x [] h)

  pub has_front : (x : A) (xs ys : List A) → Has xs x → Has (xs ++ ys) x
  has_front x [] ys h = absurd (has_none x h)
  has_front x (z ∷ xs) ys h = ⊎_elim
      (λ (e : x ≡ z). rw e (has_first z (xs ++ ys)))
      (λ (k : Has xs x). has_later z x (xs ++ ys) (has_front x xs ys k))
      (has_parts z x xs h)

  pub has_back : (x : A) (xs ys : List A) → Has ys x → Has (xs ++ ys) x
  has_back x [] ys h = h
  has_back x (z ∷ xs) ys h = has_later z x (xs ++ ys) (has_back x xs ys h)

  pub has_either : (x : A) (xs ys : List A) → Has (xs ++ ys) x → Has xs x ⊎ Has ys x
  has_either x [] ys h = inr h
  has_either x (z ∷ xs) ys h = ⊎_elim
      (λ (e : x ≡ z). inl (rw e (has_first z xs)))
      (λ (k : Has (xs ++ ys) x). ⊎_elim (λ (f : Has xs x). inl (has_later z x xs f)) (λ (b : Has ys x). inr b) (has_either x xs ys k))
      (has_parts z x (xs ++ ys) h)

-- ---- rising lists

pub rising_cons : (x : ℕ) (ys : List ℕ) → ((y : ℕ) → Has ys y → x < y) → IsRising ys → IsRising (x ∷ ys)
rising_cons x [] h r = tt
rising_cons x (y ∷ ys) h r = (h y (has_first y ys), r)

pub rising_tail : (x : ℕ) (ys : List ℕ) → IsRising (x ∷ ys) → IsRising ys
rising_tail x [] r = tt
rising_tail x (y ∷ ys) r = r.1

pub rising_above : (x : ℕ) (ys : List ℕ) → IsRising (x ∷ ys) → (y : ℕ) → Has ys y → x < y
rising_above x [] r y h = absurd (has_none y h)
rising_above x (z ∷ ys) r y h = ⊎_elim
    (λ (e : y ≡ z). let l : x < z = r.0 in omega arith)
    (λ (k : Has ys y). let l : x < z = r.0 in let m : z < y = rising_above z ys r.1 y k in omega arith)
    (has_parts z y ys h)

-- rising lists with the same members are equal
pub rising_same : (xs ys : List ℕ) → IsRising xs → IsRising ys → ((y : ℕ) → Has xs y → Has ys y) → ((y : ℕ) → Has ys y → Has xs y) → xs ≡ ys
rising_same [] [] r s f g = refl
rising_same [] (y ∷ ys) r s f g = absurd (has_none y (g y (has_first y ys)))
rising_same (x ∷ xs) [] r s f g = absurd (has_none x (f x (has_first x xs)))
rising_same (x ∷ xs) (y ∷ ys) r s f g =
    let down : y ≤ x = ⊎_elim (λ (e : x ≡ y). omega arith) (λ (k : Has ys x). let l = rising_above y ys s x k in omega arith)
    (has_parts y x ys (f x (has_first x xs))) in
    let up : x ≤ y = ⊎_elim (λ (e : y ≡ x). omega arith) (λ (k : Has xs y). let l = rising_above x xs r y k in omega arith)
    (has_parts x y xs (g y (has_first y ys))) in
    let e : x ≡ y = omega arith in
    let tails : xs ≡ ys = rising_same xs ys (rising_tail x xs r) (rising_tail y ys s)
    (λ z k. ⊎_elim (λ (q : z ≡ y). let l = rising_above x xs r z k in absurd (omega arith)) (λ (m : Has ys z). m)
    (has_parts y z ys (f z (has_later x z xs k))))
    (λ z k. ⊎_elim (λ (q : z ≡ x). let l = rising_above y ys s z k in absurd (omega arith)) (λ (m : Has xs z). m)
    (has_parts x z xs (g z (has_later y z ys k)))) in
    cc

-- a group is one list
pub group_same : (c : Common) (x : ℕ) (xs ys : List ℕ) → IsGroup c x xs → IsGroup c x ys → xs ≡ ys
group_same c x xs ys g h = rising_same xs ys g.rising h.rising
    (λ y k. (h.each y).1 ((g.each y).0 k))
    (λ y k. (g.each y).1 ((h.each y).0 k))

-- ---- the numbers of what is marked

pub marked_from_has : (oid : ℕ) (ms : List Bool) (i : ℕ) → slice_get ms i ≡ Some true → Has (marked_from oid ms) (oid + i)
marked_from_has oid [] i e = cc
marked_from_has oid (true ∷ ms) zero e = let z : oid + 0 ≡ oid = omega arith in rw z (has_first oid (marked_from (suc oid) ms))
marked_from_has oid (false ∷ ms) zero e = cc
marked_from_has oid (true ∷ ms) (suc i) e =
    let z : oid + suc i ≡ suc oid + i = omega arith in
    rw z (has_later oid (suc oid + i) (marked_from (suc oid) ms) (marked_from_has (suc oid) ms i e))
marked_from_has oid (false ∷ ms) (suc i) e =
    let z : oid + suc i ≡ suc oid + i = omega arith in
    rw z (marked_from_has (suc oid) ms i e)

pub record MarkedAs (oid : ℕ) (ms : List Bool) (y : ℕ) : Type 0 where
  pub at : ℕ
  pub number : y ≡ oid + at
  pub is : slice_get ms at ≡ Some true

marked_later : (oid : ℕ) (m : Bool) (ms : List Bool) (y : ℕ) → MarkedAs (suc oid) ms y → MarkedAs oid (m ∷ ms) y
marked_later oid m ms y k = record { at = suc k.at; number = (let e = k.number in omega arith); is = k.is }

pub has_marked : (oid : ℕ) (ms : List Bool) (y : ℕ) → Has (marked_from oid ms) y → MarkedAs oid ms y
has_marked oid [] y h = absurd (has_none y h)
has_marked oid (true ∷ ms) y h = ⊎_elim
    (λ (e : y ≡ oid). record { at = 0; number = omega arith; is = refl })
    (λ (k : Has (marked_from (suc oid) ms) y). marked_later oid true ms y (has_marked (suc oid) ms y k))
    (has_parts oid y (marked_from (suc oid) ms) h)
has_marked oid (false ∷ ms) y h = marked_later oid false ms y (has_marked (suc oid) ms y h)

marked_above : (oid : ℕ) (ms : List Bool) (y : ℕ) → Has (marked_from (suc oid) ms) y → oid < y
marked_above oid ms y h = let k = has_marked (suc oid) ms y h in let e = k.number in omega arith

pub marked_from_rising : (oid : ℕ) (ms : List Bool) → IsRising (marked_from oid ms)
marked_from_rising oid [] = tt
marked_from_rising oid (true ∷ ms) = rising_cons oid (marked_from (suc oid) ms) (marked_above oid ms) (marked_from_rising (suc oid) ms)
marked_from_rising oid (false ∷ ms) = marked_from_rising (suc oid) ms

mark_here : (ms : List Bool) (y : ℕ) → MarkedAs 1 ms y → mark_at ms y ≡ Some true
mark_here ms y k = let e : y ≡ suc k.at = (let n = k.number in omega arith) in rw e k.is

number_here : (ms : List Bool) (y : ℕ) → mark_at ms y ≡ Some true → Has (marked_from 1 ms) y
number_here ms zero e = cc
number_here ms (suc i) e = let z : 1 + i ≡ suc i = omega arith in let h = marked_from_has 1 ms i e in rw z at h

-- the numbers of what is marked are the group where the marks are the group's
pub marked_group : (c : Common) (x : ℕ) (ms : List Bool) → MarksGroup c x ms → IsGroup c x (marked_from 1 ms)
marked_group c x ms g = record {
  rising = marked_from_rising 1 ms;
  each = λ y. (λ h. (g.each y).0 (mark_here ms y (has_marked 1 ms y h)), λ h. number_here ms y ((g.each y).1 h));
}

-- ---- objects that are there

pub object_within : (objects : List ObjectRec) (z : ℕ) → IsSome (object_at objects z) → (0 < z) × (z ≤ length objects)
object_within objects zero h = cc
object_within objects (suc i) h = (omega arith, part (slice_get objects i) refl h)
  where
    part : (o : Option ObjectRec) → slice_get objects i ≡ o → IsSome o → suc i ≤ length objects
    part None e k = cc
    part (Some o) e k = let l = get_within objects i o e in omega arith

pub mark_within : (ms : List Bool) (z : ℕ) (m : Bool) → mark_at ms z ≡ Some m → (0 < z) × (z ≤ length ms)
mark_within ms zero m e = cc
mark_within ms (suc i) m e = (omega arith, (let l = get_within ms i m e in omega arith))

pub within_object : (objects : List ObjectRec) (z : ℕ) → 0 < z → z ≤ length objects → IsSome (object_at objects z)
within_object objects zero h l = absurd (omega arith)
within_object objects (suc i) h l = let g = get_there objects i (omega arith) in rw (g.1) refl
