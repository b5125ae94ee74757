-- Objects of a world once one of them is changed, or one is added.
use Rattle.std.proofs.Common.{◌≡◌, ◌≢◌, ◌∙◌, ◌-◌, ℕ, zero, suc, List, [], ◌∷◌, ◌++◌, length, Option, Some, None, ⊎_elim}
use Rattle.std.proofs.Common.{refl, sym, ap, subst, arith}
use Rattle.std.specs.Prelude.{slice_get, slice_set}
use Rattle.ec_base.proofs.Lists.{get_set_same, get_set_other, get_within}
use Rattle.ec_reached.proofs.Procs.{none_behind}
use Rattle.ec_world.proofs.Keys.{same_or_not}
use Rattle.ec_world.specs.declared.object.ObjectRec.{ObjectRec}
use Rattle.ec_world.specs.Objects.{object_at, changed_if, changed_object}

module _ (objects : List ObjectRec) (change : ObjectRec → ObjectRec) where
  set_same : (i n : ℕ) (r : ObjectRec) → n ≡ i → slice_get objects i ≡ Some r →
      slice_get (slice_set objects n (change r)) i ≡ Some (change r)
  set_same i n r e is =
      ap (λ k. slice_get (slice_set objects k (change r)) i) e ∙ get_set_same objects i (change r) (get_within objects i r is)

  set_other : (i j n : ℕ) (r : ObjectRec) → n ≡ i → j ≢ i → slice_get (slice_set objects n (change r)) j ≡ slice_get objects j
  set_other i j n r e h =
      ap (λ k. slice_get (slice_set objects k (change r)) j) e ∙ get_set_other objects i j (change r) h

  pub changed_same : (own : ℕ) (r : ObjectRec) → object_at objects own ≡ Some r →
      object_at (changed_object objects own change) own ≡ Some (change r)
  changed_same zero r is = absurd cc
  changed_same (suc i) r is =
      ap (λ (t : Option ObjectRec). slice_get (changed_if objects (suc i) change t) i) is ∙ set_same i (suc i - 1) r (omega arith) is

  other_if : (own x : ℕ) (t : Option ObjectRec) → object_at objects own ≡ t → own ≢ x →
      object_at (changed_if objects own change t) x ≡ object_at objects x
  other_if own x None is h = refl
  other_if own zero (Some r) is h = refl
  other_if zero (suc j) (Some r) is h = absurd cc
  other_if (suc i) (suc j) (Some r) is h = set_other i j (suc i - 1) r (omega arith) (λ e. h (ap suc (sym e)))

  pub changed_other : (own x : ℕ) → own ≢ x → object_at (changed_object objects own change) x ≡ object_at objects x
  changed_other own x h = other_if own x (object_at objects own) refl h

  -- what a change leaves alone stays, of whatever object
  module _ {R : Type 0} (look : Option ObjectRec → R) (keeps : (r : ObjectRec) → look (Some (change r)) ≡ look (Some r)) where
    kept_if : (own : ℕ) (t : Option ObjectRec) → object_at objects own ≡ t →
        look (object_at (changed_object objects own change) own) ≡ look (object_at objects own)
    kept_if own None is = ap (λ (t : Option ObjectRec). look (object_at (changed_if objects own change t) own)) is
    kept_if own (Some r) is = ap look (changed_same own r is) ∙ keeps r ∙ sym (ap look is)

    pub changed_kept : (own x : ℕ) → look (object_at (changed_object objects own change) x) ≡ look (object_at objects x)
    changed_kept own x = ⊎_elim
        (λ (e : own ≡ x).
        subst (λ y. look (object_at (changed_object objects own change) y) ≡ look (object_at objects y)) e
        (kept_if own (object_at objects own) refl))
        (λ (n : own ≢ x). ap look (changed_other own x n))
        (same_or_not own x)

-- ---- an object more

push_here : {B : Type 0} (xs : List B) (x : B) → slice_get (xs ++ x ∷ []) (length xs) ≡ Some x
push_here [] x = refl
push_here (y ∷ ys) x = push_here ys x

push_other : {B : Type 0} (xs : List B) (x : B) (i : ℕ) → i ≢ length xs → slice_get (xs ++ x ∷ []) i ≡ slice_get xs i
push_other [] x zero n = absurd (n refl)
push_other [] x (suc i) n = refl
push_other (y ∷ ys) x zero n = refl
push_other (y ∷ ys) x (suc i) n = push_other ys x i (λ e. n (ap suc e))

module _ (objects : List ObjectRec) (r : ObjectRec) where
  pub added_here : object_at (objects ++ r ∷ []) (suc (length objects)) ≡ Some r
  added_here = push_here objects r

  pub added_other : (x : ℕ) → x ≢ suc (length objects) → object_at (objects ++ r ∷ []) x ≡ object_at objects x
  added_other zero n = refl
  added_other (suc i) n = push_other objects r i (λ e. n (ap suc e))

pub none_there : (objects : List ObjectRec) → object_at objects (suc (length objects)) ≡ None
none_there objects = none_behind objects
