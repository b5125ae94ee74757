-- An object changes at its node.
use Rattle.std.proofs.Common.{◌≡◌, ◌≢◌, ◌⊎◌, ℕ, zero, suc, ◌-◌, ◌<◌, List, Option, Some, None, refl, sym, ap, ◌∙◌, subst, arith, inl}
use Rattle.std.proofs.Common.{inr, ⊎_elim}
use Rattle.std.specs.Prelude.{IsSome, is_some, length, option_map, slice_get, slice_set}
use Rattle.std.proofs.lemmas.Option.{same_Some}
use Rattle.ec_cluster.proofs.Putting.{node_changes, put_shown, shown_there, with_node}
use Rattle.ec_cluster.specs.Cluster.{CodeWorld, Shows, frame_of, place, stores}
use Rattle.ec_cluster.specs.Steps.{Changes, HasField, HasObject, WhereIs, with_common}
use Rattle.ec_cluster.specs.declared.cluster.Cluster.{Cluster}
use Rattle.ec_world.specs.declared.key.Key.TheVariants.{Object}
use Rattle.ec_stores.specs.Node.{NodeData, store_of}
use Rattle.ec_things.proofs.Objects.{object_put}
use Rattle.ec_things.specs.Store.{Owned, Store}
use Rattle.ec_things.specs.Texts.{GetsTexts, InPool}
use Rattle.ec_things.specs.Things.{Puts, Shown, Thing, object_if, object_thing, things_of}
use Rattle.ec_world.specs.Objects.{changed_if, changed_object, object_at}
use Rattle.ec_world.specs.declared.object.ObjectRec.{ObjectRec}

some_is : {A : Type 0} (x : Option A) → IsSome x → (a : A) × (x ≡ Some a)
some_is None h = absurd (let e = h in cc)
some_is (Some a) h = (a, refl)

pub before_suc : (i : ℕ) → suc i - 1 ≡ i
before_suc i = omega arith

-- an object that has a field is there
pub has_object : (c : Cluster) (oid i : ℕ) → HasField c oid i → HasObject c oid
has_object c oid i has = record {
  node = has.node;
  at = has.at;
  kept = record { store = has.store; there = has.there; row = ap is_some has.is };
}

-- an object that is at a node is one of the world that is shown
pub object_shown : (c : Cluster) (w : CodeWorld) (oid : ℕ) → HasObject c oid → Shows c w →
    (o : ObjectRec) × (object_at w.common.objects oid ≡ Some o)
object_shown c w oid has shows =
    let row = some_is (has.kept.store.row (Object oid)) has.kept.row in
    let z = shows.things_stand.only has.node has.kept.store (Object oid) row.0 has.kept.there row.1 in
    of (object_at w.common.objects oid) refl z.0 z.1
  where
    of : (x : Option ObjectRec) → object_at w.common.objects oid ≡ x → (t : Thing) →
        object_if oid (object_at w.common.objects oid) ≡ Some t →
        (o : ObjectRec) × (object_at w.common.objects oid ≡ Some o)
    of None e t f = absurd cc
    of (Some o) e t f = (o, e)

module _ (c : Cluster) (oid k : ℕ) (n n' : NodeData) (at : place c oid ≡ Some k) (is : slice_get c.nodes k ≡ Some n)
    (change : ObjectRec → ObjectRec)
    (puts : (o : ObjectRec) → Shown (store_of n) (Object oid) (object_thing oid o) →
    Puts (store_of n) (store_of n') (Object oid) (Some (object_thing oid (change o)))) where
  changed : (w : CodeWorld) (o : ObjectRec) (i : ℕ) → oid ≡ i → object_at w.common.objects i ≡ Some o → Shows c w →
      Shows (with_node c k n') (with_common w (record w.common { objects = changed_object w.common.objects i change }))
  changed w o zero same there shows = absurd cc
  changed w o (suc i) same there shows =
      let shown : Shown (store_of n) (Object oid) (object_thing oid o) =
      shown_there c w k (store_of n) (Object oid) (object_thing oid o) shows
      (ap (λ x. object_if oid (object_at w.common.objects x)) same ∙ ap (object_if oid) there) at (ap (option_map store_of) is) in
      let put = subst (λ x. Puts (store_of n) (store_of n') (Object x) (Some (object_thing x (change o)))) same (puts o shown) in
      let place_is : place c (suc i) ≡ Some k = subst (λ x. place c x ≡ Some k) same at in
      let after = put_shown c k n n' w (with_common w (record w.common { objects = slice_set w.common.objects i (change o) }))
      (Object (suc i))
      (Some (object_thing (suc i) (change o))) is put
      (object_put (frame_of c) (place c) w i k o (change o) there place_is) shows in
      subst (λ (os : List ObjectRec). Shows (with_node c k n') (with_common w (record w.common { objects = os })))
      (sym (ap (changed_if w.common.objects (suc i) change) there ∙ ap (λ x. slice_set w.common.objects x (change o)) (before_suc i))) after

  -- the world that is shown has this object changed
  pub object_step : HasObject c oid → (w : CodeWorld) → Shows c w →
      Shows (with_node c k n') (with_common w (record w.common { objects = changed_object w.common.objects oid change }))
  object_step has w shows = let o = object_shown c w oid has shows in changed w o.0 oid refl o.1 shows

-- The same where what is put asks that an object has a field of a number.
module _ (c : Cluster) (oid k : ℕ) (n n' : NodeData) (field : ℕ) (at : place c oid ≡ Some k) (is : slice_get c.nodes k ≡ Some n)
    (has : HasField c oid field) where
  -- it has, whichever object is shown
  field_within : (o : ObjectRec) → Shown (store_of n) (Object oid) (object_thing oid o) → field < length o.fields
  field_within o shown =
      let node : has.node ≡ k = cc (has.at) in
      let there : stores c k ≡ Some has.store = ap (stores c) (sym node) ∙ has.there in
      let here : stores c k ≡ Some (store_of n) = ap (option_map store_of) is in
      let store : has.store ≡ store_of n = cc in
      let row : has.row ≡ shown.row = same_Some has.row shown.row
      (sym has.is ∙ ap (λ (s : Store). s.row (Object oid)) store ∙ shown.there) in
      let size = ap (λ (r : Owned). r.size) row in
      let long = shown.spells.size in
      let inside = has.within in
      omega (arith, size, long, inside)

  pub field_step : (change : ObjectRec → ObjectRec) →
      ((o : ObjectRec) → Shown (store_of n) (Object oid) (object_thing oid o) → field < length o.fields →
      Puts (store_of n) (store_of n') (Object oid) (Some (object_thing oid (change o)))) → HasObject c oid → (w : CodeWorld) → Shows c w →
      Shows (with_node c k n') (with_common w (record w.common { objects = changed_object w.common.objects oid change }))
  field_step change puts there w shows =
      object_step c oid k n n' at is change (λ o shown. puts o shown (field_within o shown)) there w shows

-- and its node gets these texts
pub object_changes : (c : Cluster) (oid k : ℕ) (n n' : NodeData) (Added : List ℕ → Type 0) → place c oid ≡ Some k →
    slice_get c.nodes k ≡ Some n → GetsTexts Added (store_of n) (store_of n') → Changes (WhereIs c oid Added) c (with_node c k n')
object_changes c oid k n n' Added at is gets = node_changes c k n n' (WhereIs c oid Added) is
    (record {
      kind = gets.kind;
      room = gets.room;
      text_room = gets.text_room;
      count = gets.count;
      texts = λ text. (
        λ h. ⊎_elim (λ (x : InPool (store_of n) text). inl x)
            (λ (x : Added text). inr (at, x)) ((gets.texts text).0 h),
        λ h. (gets.texts text).1 (⊎_elim (λ (x : InPool (store_of n) text).
            inl x)
            (λ (x : WhereIs c oid Added k text). inr x.1) h),
      );
      stay = gets.stay;
    })
    (λ j text ne x. ne (let e = x.0 in cc))
