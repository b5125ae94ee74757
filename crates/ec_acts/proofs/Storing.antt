-- Values that go to constants and to elements, and objects that are fixed no more.
use Rattle.std.proofs.Common.{◌≡◌, ◌<◌, ◌≤◌, ℕ, List, [], ◌∷◌, Some, None, refl, sym, ap, ◌∙◌, arith, inl, inr, zero, suc}
use Rattle.std.proofs.lemmas.Option.{same_Some}
use Rattle.std.specs.Prelude.{false, length, slice_set}
use Rattle.ec_base.proofs.Lists.{get_set_same, length_set}
use Rattle.ec_cluster.proofs.Changing.{has_object, object_shown}
use Rattle.ec_cluster.proofs.Putting.{shown_there}
use Rattle.ec_cluster.specs.Cluster.{CodeWorld, Shows}
use Rattle.ec_cluster.specs.Steps.{Changes, Everywhere, HasField, Nothing, WhereIs, with_common}
use Rattle.ec_cluster.specs.declared.cluster.Cluster.{Cluster}
use Rattle.ec_acts.proofs.ObjectsLemmas.{changed_here, length_changed}
use Rattle.ec_acts.proofs.Stepping.{done_nothing, done_there, with_cluster}
use Rattle.ec_cluster.specs.Whereabouts.{Traces, made_count, place_at}
use Rattle.ec_world.specs.declared.key.Key.TheVariants.{Object}
use Rattle.ec_cluster.specs.SystemSteps.{Does}
use Rattle.ec_cluster.specs.Systems.{Mirrors}
use Rattle.ec_cluster.specs.declared.system.System.{System}
use Rattle.ec_things.specs.Store.{Owned}
use Rattle.ec_things.specs.Things.{Shown, object_if, object_thing}
use Rattle.ec_world.specs.Objects.{object_at}
use Rattle.ec_world.specs.Outcomes.{flagged, only, stored_in, with_element}
use Rattle.ec_world.specs.declared.doing.Doing.TheVariants.{Defines, Stores, Unfixes}
use Rattle.ec_world.specs.declared.doing.Outcome.{Outcome}
use Rattle.ec_world.specs.declared.object.ObjectRec.{ObjectRec}
use Rattle.ec_world.specs.declared.stop.Effect.TheVariants.{GoesOn}
use Rattle.ec_world.specs.declared.stop.Who.{Who}
use Rattle.ec_world.specs.declared.value.Value.{Value}
use Rattle.ec_world.specs.declared.value.Value.TheVariants.{Str}

-- what isn't in a list isn't set
set_past : {A : Type 0} (xs : List A) (i : ℕ) (x : A) → length xs ≤ i → slice_set xs i x ≡ xs
set_past [] i x h = refl
set_past (y ∷ ys) zero x h = absurd (omega arith)
set_past (y ∷ ys) (suc i) x h = ap (λ r. y ∷ r) (set_past ys i x (omega arith))

-- a field that an object's node has is one of the object that is shown
field_there : (c : Cluster) (w : CodeWorld) (oid i : ℕ) (o : ObjectRec) → HasField c oid i → Shows c w →
    object_at w.common.objects oid ≡ Some o → i < length o.fields
field_there c w oid i o has shows is =
    let shown : Shown has.store (Object oid) (object_thing oid o) =
    shown_there c w has.node has.store (Object oid) (object_thing oid o) shows (ap (object_if oid) is) has.at has.there in
    let row : has.row ≡ shown.row = same_Some has.row shown.row (sym has.is ∙ shown.there) in
    let size = ap (λ (r : Owned). r.size) row in
    let long = shown.spells.size in
    let inside = has.within in
    omega (arith, size, long, inside)

abbrev passed : Outcome
passed = only (GoesOn None)

module _ (s : System) (w : CodeWorld) (who : Who) (mirrors : Mirrors s w) where
  -- A constant that the program doesn't have is none of the world's.
  pub defined_nowhere : (index : ℕ) (v : Value) → length s.cluster.parts.constants ≤ index →
      Does s s w who (Defines index v) passed
  defined_nowhere index v past =
      let over : length w.common.globals ≤ index = rw mirrors.constants past in
      done_nothing s w who mirrors (Defines index v) passed
      (ap (λ x. (record w.common { globals = x }, passed)) (set_past w.common.globals index v over))

  module _ (c' : Cluster) (whereabouts : c'.whereabouts ≡ s.cluster.whereabouts) where
    counted : length w.common.objects ≡ made_count c'.whereabouts
    counted = mirrors.objects ∙ ap made_count (sym whereabouts)

    pub defined_there : (index : ℕ) (v : Value) → index < length s.cluster.parts.constants → Changes (Everywhere v) s.cluster c' →
        ((w : CodeWorld) → Shows s.cluster w → index < length w.common.globals →
        Shows c' (with_common w (record w.common { globals = slice_set w.common.globals index v }))) →
        Does s (with_cluster s c') w who (Defines index v) passed
    defined_there index v within changes shows =
        let inside : index < length w.common.globals = rw mirrors.constants within in
        done_there s w who mirrors c' (record w.common { globals = slice_set w.common.globals index v }) (Everywhere v) (Defines index v)
        passed changes (shows w mirrors.shows inside)
        (record { nodes = refl; classes = refl; constants = length_set w.common.globals index v }) refl counted
        (λ k text is. inr (record { at = index; is = get_set_same w.common.globals index v inside ∙ ap Some is })) refl

    pub stored_there : (oid i : ℕ) (v : Value) → HasField s.cluster oid i →
        Changes (WhereIs s.cluster oid (λ text. v ≡ Str text)) s.cluster c' →
        ((w : CodeWorld) → Shows s.cluster w → Shows c' (with_common w (stored_in w.common oid i v))) →
        Does s (with_cluster s c') w who (Stores oid i v) passed
    stored_there oid i v has changes shows =
        let o = object_shown s.cluster w oid (has_object s.cluster oid i has) mirrors.shows in
        let inside = field_there s.cluster w oid i o.0 has mirrors.shows o.1 in
        done_there s w who mirrors c' (stored_in w.common oid i v) (WhereIs s.cluster oid (λ text. v ≡ Str text)) (Stores oid i v)
        passed changes (shows w mirrors.shows) (record { nodes = refl; classes = refl; constants = refl }) refl
        (length_changed w.common.objects (with_element i v) oid ∙ counted)
        (λ k text come. inl (record {
          key = Object oid;
          thing = object_thing oid (with_element i v o.0);
          is = ap (object_if oid) (changed_here w.common.objects (with_element i v) oid o.0 o.1);
          at = ap (λ (d : Traces). place_at d oid) whereabouts ∙ come.0;
          has = record { at = i; is = get_set_same o.0.fields i v inside ∙ ap Some come.1 };
        }))
        refl

    pub unfixed_there : (oid : ℕ) → Changes Nothing s.cluster c' →
        ((w : CodeWorld) → Shows s.cluster w → Shows c' (with_common w (flagged w.common oid false))) →
        Does s (with_cluster s c') w who (Unfixes oid) passed
    unfixed_there oid changes shows =
        done_there s w who mirrors c' (flagged w.common oid false) Nothing (Unfixes oid) passed changes (shows w mirrors.shows)
        (record { nodes = refl; classes = refl; constants = refl }) refl
        (length_changed w.common.objects (λ (o : ObjectRec). record o { fixed = false }) oid ∙ counted)
        (λ k text none. absurd none) refl
