use Rattle.std.proofs.Common.{◌≡◌, drop}
use Rattle.ec_world.specs.Places.{places_after, places}
use Rattle.ec_world.proofs.places.placement_after.Given as goal

-- the events from this one on are still to come
abbrev pub invariant-loop-event : goal.invariant-loop-event
invariant-loop-event l = places_after l.placement.items (drop l.event-index l.events) ≡ places l.n l.events
