-- An object is made at its maker's node.
use Rattle.std.proofs.Common.{◌≡◌, ◌≢◌, ℕ, zero, suc, List, [], ◌∷◌, ◌++◌, Option, Some, None, refl, sym, ap, ◌∙◌, subst, arith, ⊎_elim}
use Rattle.std.specs.Prelude.{◌==◌, if◌then◌else◌, length, option_map, slice_get, slice_set}
use Rattle.ec_cluster.proofs.Changing.{object_changes}
use Rattle.ec_cluster.proofs.Places.{gives_located, located, none_next}
use Rattle.ec_cluster.proofs.Putting.{node_put}
use Rattle.ec_cluster.specs.Cluster.{CodeWorld, Shows, frame_of, place, stores_of}
use Rattle.ec_cluster.specs.Makings.{Made, with_one}
use Rattle.ec_cluster.specs.declared.cluster.Cluster.{Cluster}
use Rattle.ec_cluster.specs.Whereabouts.{Gives, Traces, made_count, place_at}
use Rattle.ec_cluster.specs.Located.{Located, made_at, with_at}
use Rattle.ec_world.specs.declared.key.Key.{Key}
use Rattle.ec_world.specs.declared.key.Key.TheVariants.{Object}
use Rattle.ec_stores.specs.Node.{NodeData, store_of}
use Rattle.ec_things.proofs.Create.{made, replaced}
use Rattle.ec_things.proofs.Put.{same_or_not}
use Rattle.ec_things.proofs.World.{one_changed}
use Rattle.ec_things.specs.Shows.{ShowsWorld}
use Rattle.ec_things.specs.Texts.{GetsTexts}
use Rattle.ec_things.specs.Things.{Puts, Thing, object_thing, things_of}
use Rattle.ec_world.specs.Group.{Has}
use Rattle.ec_world.specs.declared.object.ObjectRec.{ObjectRec}
use Rattle.ec_world.specs.declared.value.Value.TheVariants.{Str}

with_here : {A : Type 0} (f : ℕ → A) (oid : ℕ) (a : A) → with_at f oid a oid ≡ a
with_here f oid a = grind arith

with_other : {A : Type 0} (f : ℕ → A) (oid : ℕ) (a : A) (o : ℕ) → o ≢ oid → with_at f oid a o ≡ f o
with_other f oid a o ne = grind arith

module _ (d d' : Traces) (oid k : ℕ) (next : oid ≡ suc (made_count d))
    (noted : (w : Located) → Gives d w → Gives d' (made_at w oid k)) where
  pub here : place_at d' oid ≡ Some k
  here = (noted (located d) (gives_located d)).places oid ∙ with_here (place_at d) oid (Some k)

  pub elsewhere : (o : ℕ) → o ≢ oid → place_at d' o ≡ place_at d o
  elsewhere o ne = (noted (located d) (gives_located d)).places o ∙ with_other (place_at d) oid (Some k) o ne

  nowhere : (o : ℕ) → o ≡ oid → place_at d o ≡ None
  nowhere o e = ap (place_at d) (e ∙ next) ∙ none_next d

  -- what has a place is where it was
  pub as_before : (o n : ℕ) → place_at d o ≡ Some n → place_at d' o ≡ place_at d o
  as_before o n e = elsewhere o (λ same. let none = nowhere o same in cc)

module _ (c : Cluster) (d' : Traces) (k oid : ℕ) (n n' : NodeData) (o : ObjectRec) (is : slice_get c.nodes k ≡ Some n)
    (next : oid ≡ suc (made_count c.whereabouts))
    (noted : (w : Located) → Gives c.whereabouts w → Gives d' (made_at w oid k))
    (puts : Puts (store_of n) (store_of n') (Object oid) (Some (object_thing oid o))) where
  abbrev after : Cluster
  after = record c { nodes = slice_set c.nodes k n'; whereabouts = d' }

  made_shown : (w : CodeWorld) → Shows c w → length w.common.objects ≡ made_count c.whereabouts → Shows after (with_one w o)
  made_shown w shows many =
      let moved : ShowsWorld (frame_of c) (stores_of c.nodes) w (place_at d') =
      replaced (frame_of c) (stores_of c.nodes) w (place c) (place_at d')
      (λ key t e. let z = shows.things_stand.each key t e in
      as_before c.whereabouts d' oid k next noted t.home z.node z.home) shows in
      let number : oid ≡ suc (length w.common.objects) = next ∙ ap suc (sym many) in
      let put : Puts (store_of n) (store_of n') (Object (suc (length w.common.objects)))
      (Some (object_thing (suc (length w.common.objects)) o)) =
      subst (λ x. Puts (store_of n) (store_of n') (Object x) (Some (object_thing x o))) number puts in
      let at : place_at d' (suc (length w.common.objects)) ≡ Some k =
      subst (λ x. place_at d' x ≡ Some k) number (here c.whereabouts d' oid k next noted) in
      one_changed (frame_of c) (place_at d') (stores_of c.nodes) (stores_of (slice_set c.nodes k n')) k (store_of n) (store_of n') w
      (with_one w o) (Object (suc (length w.common.objects))) (Some (object_thing (suc (length w.common.objects)) o)) moved
      (node_put c.nodes k n n' is) put (made (frame_of c) (place_at d') w o k at)

  pub object_made : (maker : ℕ) → place c maker ≡ Some k → GetsTexts (λ text. Has o.fields (Str text)) (store_of n) (store_of n') →
      Made c after maker oid o
  object_made maker at gets =
      let changes = object_changes c maker k n n' (λ text. Has o.fields (Str text)) at is gets in
      record {
        changes = record { parts = refl; images = refl; nodes = changes.nodes; each = changes.each };
        noted = λ w j gives there. let same : k ≡ j = cc in subst (λ x. Gives d' (made_at w oid x)) same (noted w gives);
        shown = made_shown;
      }
