-- What a turn doesn't read: what has happened before it.
use Rattle.std.specs.Prelude.{◌≡◌, ℕ, List, ◌++◌}
use Rattle.ec_meaning.specs.Meaning.{source_turn}
use Rattle.ec_meaning.specs.Programs.{Source}
use Rattle.ec_meaning.specs.declared.activation.SourceActivation.{SourceActivation}
use Rattle.ec_world.specs.declared.event.Event.{Event}
use Rattle.ec_world.specs.declared.world.World.{World}

-- a world with other events
abbrev pub with_events : {A : Type 0} → World A → List Event → World A
with_events w es = record w { common = record w.common { events = es } }

-- Whatever happened before a turn, it adds the same events, and the rest of its world is the same.
pub record AddsEvents (s : Source) (w : World SourceActivation) (p : ℕ) : Type 0 where
  pub added : List Event
  pub same : (es : List Event) → source_turn s (with_events w es) p ≡ with_events (source_turn s w p) (es ++ added)

-- No turn's world depends on events but for those that it keeps; nor on places, which nothing but events tells.
abbrev pub NoTurnReadsEvents : Type 0
NoTurnReadsEvents = (s : Source) (w : World SourceActivation) (p : ℕ) → AddsEvents s w p
