-- What the action of a stop looks at, comes to and does, in range.
use Rattle.std.specs.Prelude.{◌≡◌, ℕ, ◌≤◌, Some, None}
use Rattle.ec_world.specs.Doings.{Asked, largest}
use Rattle.ec_world.specs.Outcomes.{Done}
use Rattle.ec_world.specs.Sights.{Sight}
use Rattle.ec_world.specs.declared.doing.Doing.{Doing}
use Rattle.ec_world.specs.declared.doing.Doing.TheVariants.{Passes, Prints, Defines, Stores, Makes, MakesVector, Invokes, Returns}
use Rattle.ec_world.specs.declared.doing.Doing.TheVariants.{Moves, Unfixes, Enters, Waits, Signals, Finishes, Breaks}
use Rattle.ec_world.specs.declared.stop.Effect.{Effect}
use Rattle.ec_world.specs.declared.stop.Effect.TheVariants.{GoesOn, Calls, Leaves, Blocks, Ends, Fails}
use Rattle.ec_world.specs.declared.value.Value.{Value}
use Rattle.ec_code.specs.RangesValues.{AllInRange, GivenInRange, InRange}
use Rattle.ec_code.specs.Worlds.{RangedCommon, most_nodes}

-- what a reader of a world sees
pub record RangedSight (s : Sight) : Type 0 where
  pub nodes : s.nodes ≤ most_nodes
  pub size : (o n : ℕ) → s.size o ≡ Some n → n ≤ largest
  pub element : (o i : ℕ) (v : Value) → s.element o i ≡ Some v → InRange v

-- each value that a doing says
abbrev pub RangedDoing : Doing → Type 0
RangedDoing (Passes given) = GivenInRange given
RangedDoing (Defines index v) = InRange v
RangedDoing (Stores o i v) = InRange v
RangedDoing (Makes class given) = AllInRange given
RangedDoing (MakesVector of n) = n ≤ largest
RangedDoing (Invokes op own args) = AllInRange args
RangedDoing (Returns given leaves section) = GivenInRange given
RangedDoing (Prints s) = Unit {0}
RangedDoing (Moves members to fixes) = Unit {0}
RangedDoing (Unfixes x) = Unit {0}
RangedDoing Enters = Unit {0}
RangedDoing (Waits condition) = Unit {0}
RangedDoing (Signals condition) = Unit {0}
RangedDoing Finishes = Unit {0}
RangedDoing (Breaks why line) = Unit {0}

-- what an action comes to, where the table has a case
abbrev pub RangedAsked : Asked → Type 0
RangedAsked None = Unit {0}
RangedAsked (Some doing) = RangedDoing doing

-- each value that an effect gives to activations
abbrev pub RangedEffect : Effect → Type 0
RangedEffect (GoesOn given) = GivenInRange given
RangedEffect (Calls op own args) = AllInRange args
RangedEffect (Leaves given) = GivenInRange given
RangedEffect (Blocks queue own) = Unit {0}
RangedEffect Ends = Unit {0}
RangedEffect (Fails why line) = Unit {0}

-- what the world then has beside its processes, and what becomes of these
abbrev pub RangedDone : Done → Type 0
RangedDone (c, outcome) = RangedCommon c × RangedEffect outcome.effect
