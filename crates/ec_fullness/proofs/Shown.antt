-- What nodes have of a world that they show, and what they don't have.
use Rattle.std.proofs.Common.{◌≡◌, ◌<◌, ◌≤◌, ◌*◌, ℕ, suc, List, [], ◌∷◌, ◌++◌, length, Option, Some, None, refl, sym, ap, ◌∙◌, subst, arith}
use Rattle.std.proofs.Common.{length-append}
use Rattle.std.specs.Prelude.{IsSome, slice_get}
use Rattle.ec_base.proofs.Lists.{get_there}
use Rattle.ec_cluster.specs.Cluster.{CodeWorld, Shows, frame_of, place, stores}
use Rattle.ec_cluster.specs.Steps.{HasField, HasObject}
use Rattle.ec_cluster.specs.declared.cluster.Cluster.{Cluster}
use Rattle.ec_cluster.specs.Finding.{NoFrame}
use Rattle.ec_cluster.specs.Frames.{HasNode}
use Rattle.ec_code.specs.declared.activation.CodeActivation.{CodeActivation}
use Rattle.ec_fullness.specs.Fitting.{HasConstant}
use Rattle.ec_cluster.specs.Whereabouts.{made_count}
use Rattle.ec_world.proofs.Procs.{activation_is, get_past}
use Rattle.ec_world.specs.Things.{blocks_of}
use Rattle.ec_world.specs.declared.key.Key.{Key}
use Rattle.ec_world.specs.declared.key.Key.TheVariants.{Frame, Object}
use Rattle.ec_things.specs.Store.{Owned, Store}
use Rattle.ec_things.specs.Things.{ShownAt, frame_if, object_if, object_thing, things_of}
use Rattle.ec_cluster.specs.Acting.{IsTop}
use Rattle.ec_world.specs.Objects.{object_at}
use Rattle.ec_world.specs.declared.object.ObjectRec.{ObjectRec}

pub some_is : {A : Type 0} (x : Option A) (a : A) → x ≡ Some a → IsSome x
some_is x a e = subst (λ y. IsSome y) (sym e) refl

-- an object that has a row at a node has the node
pub node_of_object : (c : Cluster) (oid : ℕ) → HasObject c oid → HasNode c oid
node_of_object c oid h = record { node = h.node; at = h.at; store = h.kept.store; there = h.kept.there }

module _ (c : Cluster) (w : CodeWorld) (shows : Shows c w) where
  -- ---- objects and constants

  object_shown : (oid : ℕ) (o : ObjectRec) → object_at w.common.objects oid ≡ Some o →
      ShownAt (stores c) (place c) (Object oid) (object_thing oid o)
  object_shown oid o e = shows.things_stand.each (Object oid) (object_thing oid o) (ap (object_if oid) e)

  pub has_object : (oid : ℕ) (o : ObjectRec) → object_at w.common.objects oid ≡ Some o → HasObject c oid
  has_object oid o e =
      let at = object_shown oid o e in
      record {
        node = at.node;
        at = at.home;
        kept = record { store = at.store; there = at.there; row = some_is (at.store.row (Object oid)) at.shown.row at.shown.there };
      }

  pub has_field : (oid i : ℕ) (o : ObjectRec) → object_at w.common.objects oid ≡ Some o → i < length o.fields →
      length o.fields ≤ 128 * blocks_of o → HasField c oid i
  has_field oid i o e below fit =
      let at = object_shown oid o e in
      record {
        node = at.node;
        at = at.home;
        store = at.store;
        there = at.there;
        row = at.shown.row;
        is = at.shown.there;
        within = subst (λ n. i < n) (sym at.shown.spells.size) below;
        word = subst (λ n. i < 128 * n) (sym at.shown.spells.counted) (omega (arith, below, fit));
      }

  pub has_constant : (i : ℕ) → i < length w.common.globals → HasConstant c i
  has_constant i below k s there =
      let v = get_there w.common.globals i below in
      let g = shows.globals_stand k s i v.0 there v.1 in
      some_is (s.global i) g.word g.there

  -- ---- what isn't there

  no_row : (key : Key) → things_of (frame_of c) w key ≡ None → (k : ℕ) (s : Store) → stores c k ≡ Some s → s.row key ≡ None
  no_row key none k s there = by (s.row key) refl
    where
      by : (r : Option Owned) → s.row key ≡ r → r ≡ None
      by None e = refl
      by (Some r) e = let t = shows.things_stand.only k s key r there e in absurd (let is = t.1 in cc)

  -- no object has the next number
  pub no_object : length w.common.objects ≡ made_count c.whereabouts → (k : ℕ) (s : Store) → stores c k ≡ Some s →
      s.row (Object (suc (made_count c.whereabouts))) ≡ None
  no_object many =
      no_row (Object (suc (made_count c.whereabouts)))
      (ap (object_if (suc (made_count c.whereabouts)))
      (get_past w.common.objects (made_count c.whereabouts) (omega (arith, many))))

  -- no activation is above the top
  pub no_frame : (p : ℕ) (below : List CodeActivation) (top : CodeActivation) → IsTop w p below top → NoFrame c p (suc (length below))
  no_frame p below top is =
      no_row (Frame p (suc (length below)))
      (ap (frame_if (frame_of c) p (suc (length below)))
      (activation_is w.processes p (suc (length below)) is.proc is.is
      ∙ ap (λ xs. slice_get xs (suc (length below))) is.stack
      ∙ get_past (below ++ top ∷ []) (suc (length below)) (let l = length-append below (top ∷ []) in omega (arith, l))))
