-- Where there are no new objects and no events, objects are where the events have them as before; and what one event more does to places.
use Rattle.std.proofs.Common.{◌≡◌, ℕ, List, [], ◌∷◌, ◌++◌, refl, sym, ap, ◌∙◌}
use Rattle.ec_cluster.specs.Cluster.{CodeWorld}
use Rattle.ec_cluster.specs.declared.cluster.Cluster.{Cluster}
use Rattle.ec_cluster.specs.Whereabouts.{place_at}
use Rattle.ec_rooms.proofs.Counting.{Stays, placed_after, stays_grows}
use Rattle.ec_rooms.specs.Places.{HasPlaces, place_of}
use Rattle.ec_world.specs.Places.{place_in, placed, places, places_after}
use Rattle.ec_world.specs.declared.event.Event.{Event}

-- ---- the same events

pub stays_place : (w w' : CodeWorld) (oid : ℕ) → Stays w.common w'.common → place_of w' oid ≡ place_of w oid
stays_place w w' oid s =
    ap (λ n. place_in (places n w'.common.events) oid) s.nodes
    ∙ ap (λ (es : List Event). place_in (places w.common.nodes es) oid) s.events

pub stays_places : (old new : Cluster) (w w' : CodeWorld) → Stays w.common w'.common → new.whereabouts ≡ old.whereabouts → HasPlaces old w →
    HasPlaces new w'
stays_places old new w w' s same has = record {
  each = placed_after w.common w'.common (stays_grows w.common w'.common s) has.each;
  placed = λ oid. ap (λ e. place_at e oid) same ∙ has.placed oid ∙ sym (stays_place w w' oid s);
}

-- ---- one event more

after_push : (ps : List ℕ) (es : List Event) (e : Event) → places_after ps (es ++ e ∷ []) ≡ placed (places_after ps es) e
after_push ps [] e = refl
after_push ps (f ∷ es) e = after_push (placed ps f) es e

pub places_push : (n : ℕ) (es : List Event) (e : Event) → places n (es ++ e ∷ []) ≡ placed (places n es) e
places_push n es e = after_push _ es e
