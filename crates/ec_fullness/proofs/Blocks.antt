-- How many blocks a world holds at a node, once an action has been done.
use Rattle.std.proofs.Common.{◌≡◌, ℕ, zero, suc, ◌+◌, List, [], ◌∷◌, ◌++◌, map, Option, Some, refl, ap, arith}
use Rattle.std.specs.Prelude.{slice_get, slice_set}
use Rattle.ec_cluster.specs.Cluster.{CodeWorld, frame_of}
use Rattle.ec_cluster.specs.declared.cluster.Cluster.{Cluster}
use Rattle.ec_cluster.proofs.Finishing.{finished_own}
use Rattle.ec_code.specs.Activations.{finished}
use Rattle.ec_code.specs.declared.activation.CodeActivation.{CodeActivation}
use Rattle.ec_fullness.proofs.Stacks.{after, begun_stacks, new_stack, stacks_after}
use Rattle.ec_node_frames.proofs.Items.{get_map}
use Rattle.ec_world.specs.Held.{if_at, total}
use Rattle.ec_world.specs.Things.{blocks_of}
use Rattle.ec_things.proofs.Items.{held_sum, item_is, items, weight}
use Rattle.ec_things.proofs.Same.{stacks}
use Rattle.ec_things.proofs.Sums.{summed}
use Rattle.ec_things.specs.Held.{Held, frame_weight, object_weight, process_weight}
use Rattle.ec_things.specs.Things.{Thing, things_of}
use Rattle.ec_world.specs.declared.key.Key.{Key}
use Rattle.ec_world.specs.Group.{Has}
use Rattle.ec_world.specs.declared.common.Common.{Common}
use Rattle.ec_world.specs.declared.doing.Outcome.{Outcome}
use Rattle.ec_world.specs.declared.object.ObjectRec.{ObjectRec}
use Rattle.ec_world.specs.declared.process.Proc.{Proc}
use Rattle.ec_world.specs.declared.value.Value.{Value}

-- ---- sums

summed_append : {A : Type 0} (f : A → ℕ) (xs ys : List A) → summed f (xs ++ ys) ≡ summed f xs + summed f ys
summed_append f [] ys = omega arith
summed_append f (x ∷ xs) ys = let t : summed f (xs ++ ys) ≡ summed f xs + summed f ys = summed_append f xs ys in omega arith

summed_set : {A : Type 0} (f : A → ℕ) (xs : List A) (i : ℕ) (x y : A) → slice_get xs i ≡ Some x →
    summed f (slice_set xs i y) + f x ≡ summed f xs + f y
summed_set f [] i x y e = absurd cc
summed_set f (z ∷ zs) zero x y e = let is : z ≡ x = cc in rw is (omega arith)
summed_set f (z ∷ zs) (suc i) x y e =
    let t : summed f (slice_set zs i y) + f x ≡ summed f zs + f y = summed_set f zs i x y e in
    omega arith

pub summed_push : {A : Type 0} (f : A → ℕ) (xs : List A) (x : A) → summed f (xs ++ x ∷ []) ≡ summed f xs + f x
summed_push f xs x = let t = summed_append f xs (x ∷ []) in omega (arith, t)

summed_same : {A : Type 0} (f g : A → ℕ) (xs : List A) → ((x : A) → Has xs x → f x ≡ g x) → summed f xs ≡ summed g xs
summed_same f g [] h = refl
summed_same f g (x ∷ xs) h =
    let a : f x ≡ g x = h x (record { at = zero; is = refl }) in
    let b : summed f xs ≡ summed g xs = summed_same f g xs (λ y q. h y (record { at = suc q.at; is = q.is })) in
    omega arith

-- places of what isn't there don't matter
pub held_moved : (c : Cluster) (w : CodeWorld) (places places' : ℕ → Option ℕ) (k : ℕ) →
    ((key : Key) (t : Thing) → things_of (frame_of c) w key ≡ Some t → places' t.home ≡ places t.home) →
    Held (frame_of c) places' k w ≡ Held (frame_of c) places k w
held_moved c w places places' k same =
    let h : summed (weight places' k) (items (frame_of c) w) ≡ summed (weight places k) (items (frame_of c) w) =
    summed_same (weight places' k) (weight places k) (items (frame_of c) w)
    (λ x q. ap (if_at k x.thing.blocks) (same x.key x.thing (item_is (frame_of c) w x q))) in
    omega (arith, h, held_sum (frame_of c) places' k w, held_sum (frame_of c) places k w)

-- ---- activations

module _ (c : Cluster) (places : ℕ → Option ℕ) (k : ℕ) where
  -- an activation has a block at the node of its own object
  abbrev pub one : CodeActivation → ℕ
  one a = if_at k 1 (places a.own)

  frame_sum : (p d : ℕ) (xs : List CodeActivation) → total (frame_weight (frame_of c) places k p) d xs ≡ summed one xs
  frame_sum p d [] = refl
  frame_sum p d (a ∷ rest) = ap (λ n. one a + n) (frame_sum p (suc d) rest)

  process_sum : (i : ℕ) (ps : List (Proc CodeActivation)) →
      total (process_weight (frame_of c) places k) i ps ≡ summed (summed one) (stacks ps)
  process_sum i [] = refl
  process_sum i (q ∷ qs) =
      let a = frame_sum i 0 q.activations in
      let b = process_sum (suc i) qs in
      omega (arith, a, b)

  abbrev pub object_sum : List ObjectRec → ℕ
  object_sum os = total (object_weight (frame_of c) places k) 0 os

  pub held_is : (w : CodeWorld) → Held (frame_of c) places k w ≡ object_sum w.common.objects + summed (summed one) (stacks w.processes)
  held_is w = ap (λ n. object_sum w.common.objects + n) (process_sum 0 w.processes)

  -- ---- objects that have as many blocks

  objects_from : (i : ℕ) (os os' : List ObjectRec) → map blocks_of os' ≡ map blocks_of os →
      total (object_weight (frame_of c) places k) i os' ≡ total (object_weight (frame_of c) places k) i os
  objects_from i [] [] e = refl
  objects_from i [] (o ∷ os) e = absurd cc
  objects_from i (o ∷ os) [] e = absurd cc
  objects_from i (o ∷ os) (u ∷ us) e =
      let first : blocks_of u ≡ blocks_of o = cc in
      let rest : map blocks_of us ≡ map blocks_of os = cc in
      let a : if_at k (blocks_of u) (places (suc i)) ≡ if_at k (blocks_of o) (places (suc i)) =
      ap (λ n. if_at k n (places (suc i))) first in
      let b = objects_from (suc i) os us rest in
      omega (arith, a, b)

  pub objects_same : (os os' : List ObjectRec) → map blocks_of os' ≡ map blocks_of os → object_sum os' ≡ object_sum os
  objects_same os os' e = objects_from 0 os os' e

  -- ---- what becomes of the top

  pub one_finished : (a : CodeActivation) (given : Option Value) → one (finished a given) ≡ one a
  one_finished a given = ap (λ o. if_at k 1 (places o)) (finished_own a given)

  pub top_finished : (below : List CodeActivation) (top : CodeActivation) (given : Option Value) →
      summed one (below ++ finished top given ∷ []) ≡ summed one (below ++ top ∷ [])
  top_finished below top given =
      let a = summed_push one below (finished top given) in
      let b = summed_push one below top in
      let e = one_finished top given in
      omega (arith, a, b, e)

  -- ---- after an action

  module _ (w : CodeWorld) (p : ℕ) (below : List CodeActivation) (top : CodeActivation) (common : Common) (o : Outcome)
      (g : List ObjectRec × List ℕ) where
    pub held_after : (proc : Proc CodeActivation) → slice_get w.processes p ≡ Some proc →
        Held (frame_of c) places k (after w p below top common o g) + (object_sum w.common.objects + summed one proc.activations)
        ≡ Held (frame_of c) places k w + (object_sum g.0 + (summed one (new_stack w p below top common o g)
        + summed (summed one) (begun_stacks w p below top common o g)))
    held_after proc is =
        let new = new_stack w p below top common o g in
        let begun = begun_stacks w p below top common o g in
        let now = held_is (after w p below top common o g) in
        let before = held_is w in
        let split = ap (summed (summed one)) (stacks_after w p below top common o g) in
        let both = summed_append (summed one) (slice_set (stacks w.processes) p new) begun in
        let set = summed_set (summed one) (stacks w.processes) p proc.activations new
        (get_map (λ (r : Proc CodeActivation). r.activations) w.processes p proc is) in
        omega (arith, now, before, split, both, set)
