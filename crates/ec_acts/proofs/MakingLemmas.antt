-- An object is made at a node.
use Rattle.std.proofs.Common.{◌≡◌, ℕ, suc, List, [], Option, Some, None, refl, sym, ap, ◌∙◌, subst, arith}
use Rattle.std.specs.Prelude.{length, slice_get, slice_set}
use Rattle.ec_cluster.proofs.Creating.{as_before, here}
use Rattle.ec_cluster.proofs.Putting.{node_put}
use Rattle.ec_cluster.specs.Cluster.{CodeWorld, Shows, frame_of, place, stores, stores_of}
use Rattle.ec_cluster.specs.Makings.{with_one}
use Rattle.ec_cluster.specs.declared.cluster.Cluster.{Cluster}
use Rattle.ec_cluster.specs.declared.cluster.Images.{Images}
use Rattle.ec_code.specs.declared.code.Parts.{Parts}
use Rattle.ec_cluster.specs.Whereabouts.{Gives, Traces, made_count, place_at}
use Rattle.ec_cluster.specs.Located.{Located, made_at}
use Rattle.ec_acts.proofs.Setting.{gets_none, set_with}
use Rattle.ec_acts.specs.Loading.{IsSet}
use Rattle.ec_world.proofs.Procs.{get_past}
use Rattle.ec_world.specs.declared.key.Key.TheVariants.{Frame, Object}
use Rattle.ec_world.specs.Things.{activation_at}
use Rattle.ec_objects.specs.Values.{TextsFit}
use Rattle.ec_stores.proofs.Numbers.{length_more}
use Rattle.ec_stores.specs.Node.{NodeData, store_of}
use Rattle.ec_things.proofs.Create.{made, replaced}
use Rattle.ec_things.proofs.World.{one_changed}
use Rattle.ec_things.specs.Shows.{ShowsWorld}
use Rattle.ec_things.specs.Store.{Owned, Store}
use Rattle.ec_things.specs.Texts.{GetsTexts}
use Rattle.ec_things.specs.Things.{Puts, frame_if, object_if, object_thing, things_of}
use Rattle.ec_world.specs.Group.{Has}
use Rattle.ec_world.specs.declared.node.NodeSpec.{NodeSpec}
use Rattle.ec_world.specs.declared.object.ObjectRec.{ObjectRec}
use Rattle.ec_world.specs.declared.value.Value.{Value}
use Rattle.ec_world.specs.declared.value.Value.TheVariants.{Str}

-- ---- what isn't there

no_row : (c : Cluster) (w : CodeWorld) (k oid : ℕ) (s : Store) → Shows c w → stores c k ≡ Some s →
    things_of (frame_of c) w (Object oid) ≡ None → s.row (Object oid) ≡ None
no_row c w k oid s shows there none = by (s.row (Object oid)) refl
  where
    by : (r : Option Owned) → s.row (Object oid) ≡ r → r ≡ None
    by None e = refl
    by (Some r) e = let z = shows.things_stand.only k s (Object oid) r there e in absurd (let f = z.1 in cc)

-- no node has the object of the next number
pub no_object : (c : Cluster) (w : CodeWorld) (k oid : ℕ) (s : Store) → Shows c w → stores c k ≡ Some s →
    oid ≡ suc (length w.common.objects) → s.row (Object oid) ≡ None
no_object c w k oid s shows there next =
    no_row c w k oid s shows there
    (subst (λ x. things_of (frame_of c) w (Object x) ≡ None) (sym next)
    (ap (object_if (suc (length w.common.objects))) (get_past w.common.objects (length w.common.objects) (omega arith))))

-- where no process is, no node has an activation
pub no_frame : (c : Cluster) (w : CodeWorld) (k : ℕ) (s : Store) → Shows c w → stores c k ≡ Some s → w.processes ≡ [] →
    s.row (Frame 0 0) ≡ None
no_frame c w k s shows there none = by (s.row (Frame 0 0)) refl
  where
    no_thing : things_of (frame_of c) w (Frame 0 0) ≡ None
    no_thing = ap (λ ps. frame_if (frame_of c) 0 0 (activation_at ps 0 0)) none

    by : (r : Option Owned) → s.row (Frame 0 0) ≡ r → r ≡ None
    by None e = refl
    by (Some r) e = let z = shows.things_stand.only k s (Frame 0 0) r there e in absurd (let f = z.1 in cc)

-- ---- no values

no_value : (v : Value) → Has [] v → ⊥
no_value v h = absurd (let e = h.is in cc)

no_texts_of : (text : List ℕ) → Has [] (Str text) → ⊥
no_texts_of text h = no_value (Str text) h

no_text : (text : List ℕ) → Has [] text → ⊥
no_text text h = absurd (let e = h.is in cc)

-- values without texts have room
pub fit_none : (s : Store) (values : List Value) → ((text : List ℕ) → Has values (Str text) → ⊥) → TextsFit s values
fit_none s values none = record {
  bytes = 0;
  needs = record {
    texts = [];
    once = record { once = λ i j x e f. absurd (no_text x (record { at = i; is = e })) };
    these = λ text. (λ h. absurd (no_text text h), λ h. absurd (none text h.0));
    bytes = refl;
  };
  fits = omega arith;
}

pub fit_no_values : (s : Store) → TextsFit s []
fit_no_values s = fit_none s [] no_texts_of

-- ---- an object comes

module _ (c : Cluster) (d' : Traces) (k oid : ℕ) (n n' : NodeData) (o : ObjectRec) (is : slice_get c.nodes k ≡ Some n)
    (next : oid ≡ suc (made_count c.whereabouts))
    (noted : (w : Located) → Gives c.whereabouts w → Gives d' (made_at w oid k))
    (puts : Puts (store_of n) (store_of n') (Object oid) (Some (object_thing oid o))) where
  abbrev after : Cluster
  after = record c { nodes = slice_set c.nodes k n'; whereabouts = d' }

  made_shown : (w : CodeWorld) → Shows c w → length w.common.objects ≡ made_count c.whereabouts → Shows after (with_one w o)
  made_shown w shows many =
      let moved : ShowsWorld (frame_of c) (stores_of c.nodes) w (place_at d') =
      replaced (frame_of c) (stores_of c.nodes) w (place c) (place_at d')
      (λ key t e. let z = shows.things_stand.each key t e in
      as_before c.whereabouts d' oid k next noted t.home z.node z.home) shows in
      let number : oid ≡ suc (length w.common.objects) = next ∙ ap suc (sym many) in
      let put : Puts (store_of n) (store_of n') (Object (suc (length w.common.objects)))
      (Some (object_thing (suc (length w.common.objects)) o)) =
      subst (λ x. Puts (store_of n) (store_of n') (Object x) (Some (object_thing x o))) number puts in
      let at : place_at d' (suc (length w.common.objects)) ≡ Some k =
      subst (λ x. place_at d' x ≡ Some k) number (here c.whereabouts d' oid k next noted) in
      one_changed (frame_of c) (place_at d') (stores_of c.nodes) (stores_of (slice_set c.nodes k n')) k (store_of n) (store_of n') w
      (with_one w o) (Object (suc (length w.common.objects))) (Some (object_thing (suc (length w.common.objects)) o)) moved
      (node_put c.nodes k n n' is) put (made (frame_of c) (place_at d') w o k at)

  pub made_set : GetsTexts (λ text. Has o.fields (Str text)) (store_of n) (store_of n') → o.fields ≡ [] → (p : Parts) (images : Images)
      (specs : List NodeSpec) (w : CodeWorld) (at : Located) → IsSet p images specs w at c →
      IsSet p images specs (with_one w o) (made_at at oid k) after
  made_set gets none p images specs w at set =
      set_with p images specs w at c set k n n' is (Object oid) (Some (object_thing oid o)) puts
      (gets_none (λ text. Has o.fields (Str text)) (store_of n) (store_of n')
      (λ text h. no_texts_of text (subst (λ (vs : List Value). Has vs (Str text)) none h)) gets)
      d' (with_one w o) (made_at at oid k) (noted at set.whereabouts) (length_more w.common.objects o ∙ ap suc set.many)
      (made_shown w set.shows (set.many ∙ sym set.whereabouts.made))
