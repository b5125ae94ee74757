-- All things of a world as a list, and what is held as a sum over it.
use Rattle.std.proofs.Common.{◌≡◌, ℕ, zero, suc, ◌+◌, List, [], ◌∷◌, ◌++◌, Option, Some, refl, ap, arith, ◌⊎◌}
use Rattle.std.proofs.Common.{inl, inr, ⊎_elim}
use Rattle.std.specs.Prelude.{slice_get}
use Rattle.ec_world.specs.declared.object.ObjectRec.{ObjectRec}
use Rattle.ec_world.specs.declared.process.Proc.{Proc}
use Rattle.ec_world.specs.declared.world.World.{World}
use Rattle.ec_world.specs.declared.key.Key.TheVariants.{Object, Frame}
use Rattle.ec_world.specs.Group.{Has}
use Rattle.ec_things.specs.Things.{Thing, things_of, object_thing, object_if, frame_if}
use Rattle.ec_world.specs.Things.{activation_at}
use Rattle.ec_things.specs.Items.{Item}
use Rattle.ec_world.specs.Held.{if_at, total}
use Rattle.ec_things.specs.Held.{Held, object_weight, process_weight, frame_weight}
use Rattle.ec_things.proofs.Sums.{summed}

summed_append : {A : Type 0} (f : A → ℕ) (xs ys : List A) → summed f (xs ++ ys) ≡ summed f xs + summed f ys
summed_append f [] ys = omega arith
summed_append f (x ∷ xs) ys = let t : summed f (xs ++ ys) ≡ summed f xs + summed f ys = summed_append f xs ys in omega arith

has_either : {A : Type 0} (xs ys : List A) (i : ℕ) (x : A) → slice_get (xs ++ ys) i ≡ Some x → Has xs x ⊎ Has ys x
has_either [] ys i x e = inr (record { at = i; is = e })
has_either (z ∷ zs) ys zero x e = inl (record { at = zero; is = e })
has_either (z ∷ zs) ys (suc i) x e = ⊎_elim
    (λ (h : Has zs x). inl (record { at = suc h.at; is = h.is }))
    (λ (h : Has ys x). inr h)
    (has_either zs ys i x e)

abbrev pub weight : (ℕ → Option ℕ) → ℕ → Item → ℕ
weight place k x = if_at k x.thing.blocks (place x.thing.home)

module _ {A : Type 0} (frame : ℕ → ℕ → A → Thing) where
  abbrev pub object_items : ℕ → List ObjectRec → List Item
  object_items i [] = []
  object_items i (o ∷ os) = record { key = Object (suc i); thing = object_thing (suc i) o } ∷ object_items (suc i) os

  abbrev pub stack_items : ℕ → ℕ → List A → List Item
  stack_items p d [] = []
  stack_items p d (a ∷ rest) = record { key = Frame p d; thing = frame p d a } ∷ stack_items p (suc d) rest

  abbrev pub process_items : ℕ → List (Proc A) → List Item
  process_items p [] = []
  process_items p (q ∷ qs) = stack_items p 0 q.activations ++ process_items (suc p) qs

  abbrev pub items : World A → List Item
  items w = object_items 0 w.common.objects ++ process_items 0 w.processes

  module _ (place : ℕ → Option ℕ) (k : ℕ) where
    object_sum : (i : ℕ) (os : List ObjectRec) → summed (weight place k) (object_items i os) ≡ total (object_weight frame place k) i os
    object_sum i [] = refl
    object_sum i (o ∷ os) = ap (λ n. object_weight frame place k i o + n) (object_sum (suc i) os)

    stack_sum : (p d : ℕ) (xs : List A) → summed (weight place k) (stack_items p d xs) ≡ total (frame_weight frame place k p) d xs
    stack_sum p d [] = refl
    stack_sum p d (a ∷ rest) = ap (λ n. frame_weight frame place k p d a + n) (stack_sum p (suc d) rest)

    process_sum : (p : ℕ) (qs : List (Proc A)) →
        summed (weight place k) (process_items p qs) ≡ total (process_weight frame place k) p qs
    process_sum p [] = refl
    process_sum p (q ∷ qs) =
        let a = summed_append (weight place k) (stack_items p 0 q.activations) (process_items (suc p) qs) in
        let b = stack_sum p 0 q.activations in
        let c = process_sum (suc p) qs in
        omega (arith, a, b, c)

    pub held_sum : (w : World A) → summed (weight place k) (items w) ≡ Held frame place k w
    held_sum w =
        omega (
          arith,
          summed_append (weight place k) (object_items 0 w.common.objects) (process_items 0 w.processes),
          object_sum 0
              w.common.objects,
          process_sum 0 w.processes,
        )

  -- an item is a thing
  object_is : (i j : ℕ) (os : List ObjectRec) (x : Item) → slice_get (object_items i os) j ≡ Some x →
      (o : ObjectRec) × (slice_get os j ≡ Some o) × (x ≡ record { key = Object (suc (i + j)); thing = object_thing (suc (i + j)) o })
  object_is i j [] x e = cc
  object_is i zero (o ∷ os) x e = let n : i + 0 ≡ i = omega arith in (o, refl, rw n cc)
  object_is i (suc j) (o ∷ os) x e = let n : i + suc j ≡ suc i + j = omega arith in rw n (object_is (suc i) j os x e)

  stack_is : (p d j : ℕ) (xs : List A) (x : Item) → slice_get (stack_items p d xs) j ≡ Some x →
      (a : A) × (slice_get xs j ≡ Some a) × (x ≡ record { key = Frame p (d + j); thing = frame p (d + j) a })
  stack_is p d j [] x e = cc
  stack_is p d zero (a ∷ xs) x e = let n : d + 0 ≡ d = omega arith in (a, refl, rw n cc)
  stack_is p d (suc j) (a ∷ xs) x e = let n : d + suc j ≡ suc d + j = omega arith in rw n (stack_is p (suc d) j xs x e)

  process_is : (p i : ℕ) (qs : List (Proc A)) (x : Item) → slice_get (process_items p qs) i ≡ Some x →
      (j : ℕ) × (d : ℕ) × (a : A) × (activation_at qs j d ≡ Some a)
      × (x ≡ record { key = Frame (p + j) d; thing = frame (p + j) d a })
  process_is p i [] x e = cc
  process_is p i (q ∷ qs) x e = ⊎_elim
      (λ (h : Has (stack_items p 0 q.activations) x).
      let s = stack_is p 0 h.at q.activations x h.is in
      let n : p + 0 ≡ p = omega arith in
      let m : 0 + h.at ≡ h.at = omega arith in
      let is : x ≡ record { key = Frame p h.at; thing = frame p h.at s.0 } = rw m at s.2 in
      (0, h.at, s.0, s.1, rw n is))
      (λ (h : Has (process_items (suc p) qs) x).
      let s = process_is (suc p) h.at qs x h.is in
      let n : p + suc s.0 ≡ suc p + s.0 = omega arith in
      (suc s.0, s.1, s.2, s.3, rw n s.4))
      (has_either (stack_items p 0 q.activations) (process_items (suc p) qs) i x e)

  pub item_is : (w : World A) (x : Item) → Has (items w) x → things_of frame w x.key ≡ Some x.thing
  item_is w x h = ⊎_elim
      (λ (g : Has (object_items 0 w.common.objects) x).
      let s = object_is 0 g.at w.common.objects x g.is in
      let n : 0 + g.at ≡ g.at = omega arith in
      let is : x ≡ record { key = Object (suc g.at); thing = object_thing (suc g.at) s.0 } = rw n at s.2 in
      rw is (ap (object_if (suc g.at)) s.1))
      (λ (g : Has (process_items 0 w.processes) x).
      let s = process_is 0 g.at w.processes x g.is in
      let n : 0 + s.0 ≡ s.0 = omega arith in
      let is : x ≡ record { key = Frame s.0 s.1; thing = frame s.0 s.1 s.2 } = rw n at s.4 in
      rw is (ap (frame_if frame s.0 s.1) s.3))
      (has_either (object_items 0 w.common.objects) (process_items 0 w.processes) h.at x h.is)
