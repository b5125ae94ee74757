-- A new object is where its maker is.
use Rattle.std.proofs.Common.{◌≡◌, ◌≢◌, ℕ, zero, suc, ⊎_elim, List, [], ◌∷◌, ◌++◌, length, Option, Some, refl, sym, ap, ◌∙◌}
use Rattle.std.specs.Prelude.{slice_get}
use Rattle.ec_cluster.specs.Cluster.{CodeWorld}
use Rattle.ec_cluster.specs.Steps.{with_common}
use Rattle.ec_world.proofs.Procs.{get_but_end, get_end}
use Rattle.ec_rooms.proofs.Counting.{one_made, placed_after}
use Rattle.ec_rooms.proofs.Staying.{places_push}
use Rattle.ec_rooms.specs.Places.{PlacesEach, place_of}
use Rattle.ec_things.proofs.Put.{same_or_not}
use Rattle.ec_world.specs.Outcomes.{with_object}
use Rattle.ec_world.specs.Places.{node_or_first, place_in, places}
use Rattle.ec_world.specs.declared.event.Event.TheVariants.{Created}
use Rattle.ec_world.specs.declared.object.ObjectRec.{ObjectRec}
use Rattle.ec_world.specs.declared.stop.Who.{Who}

module _ (w : CodeWorld) (who : Who) (o : ObjectRec) (each : PlacesEach w) where
  -- the world with the new object
  abbrev more : CodeWorld
  more = with_common w (with_object w.common who o)

  abbrev before : List ℕ
  before = places w.common.nodes w.common.events

  pub more_each : PlacesEach more
  more_each = placed_after w.common more.common (one_made w.common who o) each

  place_more : (oid : ℕ) → place_of more oid ≡ place_in (before ++ node_or_first (place_of w who.own) ∷ []) oid
  place_more oid =
      ap (λ (ps : List ℕ). place_in ps oid)
      (places_push w.common.nodes w.common.events (Created (suc (length w.common.objects)) who.own))

  new_place : (k : ℕ) → place_of w who.own ≡ Some k → place_of more (suc (length w.common.objects)) ≡ Some k
  new_place k at =
      place_more (suc (length w.common.objects))
      ∙ ap (λ i. slice_get (before ++ node_or_first (place_of w who.own) ∷ []) i) (sym each)
      ∙ get_end before (node_or_first (place_of w who.own))
      ∙ ap (λ x. Some (node_or_first x)) at

  other_place : (oid : ℕ) → oid ≢ suc (length w.common.objects) → place_of more oid ≡ place_of w oid
  other_place zero ne = refl
  other_place (suc i) ne =
      place_more (suc i)
      ∙ get_but_end before (node_or_first (place_of w who.own)) i (λ same. ne (ap suc (same ∙ each)))

  -- Places that have the new object where its maker is, and others where they were, are those by the events.
  pub more_agrees : (at : ℕ → Option ℕ) (k : ℕ) → place_of w who.own ≡ Some k → at (suc (length w.common.objects)) ≡ Some k →
      ((oid : ℕ) → oid ≢ suc (length w.common.objects) → at oid ≡ place_of w oid) → (oid : ℕ) → at oid ≡ place_of more oid
  more_agrees at k own new others oid = ⊎_elim
      (λ (same : oid ≡ suc (length w.common.objects)). ap at same ∙ new ∙ sym (new_place k own) ∙ ap (place_of more) (sym same))
      (λ (ne : oid ≢ suc (length w.common.objects)). others oid ne ∙ sym (other_place oid ne))
      (same_or_not oid (suc (length w.common.objects)))
