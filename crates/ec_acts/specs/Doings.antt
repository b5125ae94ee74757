-- What a doing does to a system.
use Rattle.std.specs.Prelude.{◌≡◌, ◌≢◌, ℕ, suc}
use Rattle.ec_cluster.specs.Cluster.{CodeWorld, place}
use Rattle.ec_cluster.specs.declared.cluster.Cluster.{Cluster}
use Rattle.ec_cluster.specs.Whereabouts.{made_count, moves_of}
use Rattle.ec_cluster.specs.SystemSteps.{Does}
use Rattle.ec_cluster.specs.Systems.{Mirrors}
use Rattle.ec_cluster.specs.declared.system.System.{System}
use Rattle.ec_world.specs.declared.doing.Doing.{Doing}
use Rattle.ec_world.specs.declared.doing.Doing.TheVariants.{Passes, Prints, Defines, Stores, Makes, MakesVector, Invokes, Returns}
use Rattle.ec_world.specs.declared.doing.Doing.TheVariants.{Moves, Unfixes, Enters, Waits, Signals, Finishes, Breaks}
use Rattle.ec_world.specs.declared.doing.Outcome.{Outcome}
use Rattle.ec_world.specs.declared.stop.Who.{Who}

-- whichever world it showed, the doing is done to it and comes to this outcome
abbrev pub DoneTo : System → System → Who → Doing → Outcome → Type 0
DoneTo old new who doing o = (w : CodeWorld) → Mirrors old w → Does old new w who doing o

-- ---- what stays on nodes

-- a doing that brings no text: no constant, no element and no new object
abbrev pub BringsNothing : Doing → Type 0
BringsNothing (Passes given) = Unit {0}
BringsNothing (Prints text) = Unit {0}
BringsNothing (Defines index v) = ⊥
BringsNothing (Stores oid i v) = ⊥
BringsNothing (Makes class given) = ⊥
BringsNothing (MakesVector of n) = ⊥
BringsNothing (Invokes op own args) = Unit {0}
BringsNothing (Returns given leaves section) = Unit {0}
BringsNothing (Moves members to fixes) = ⊥
BringsNothing (Unfixes x) = Unit {0}
BringsNothing Enters = Unit {0}
BringsNothing (Waits condition) = Unit {0}
BringsNothing (Signals condition) = Unit {0}
BringsNothing Finishes = Unit {0}
BringsNothing (Breaks why line) = Unit {0}

-- There is one object more, where its maker is, and each other one is where it was; none has moved.
pub record OneMore (c c' : Cluster) (maker : ℕ) : Type 0 where
  pub count : made_count c'.whereabouts ≡ suc (made_count c.whereabouts)
  pub new : place c' (suc (made_count c.whereabouts)) ≡ place c maker
  pub others : (oid : ℕ) → oid ≢ suc (made_count c.whereabouts) → place c' oid ≡ place c oid
  pub moves : (oid : ℕ) → moves_of c'.whereabouts oid ≡ moves_of c.whereabouts oid

abbrev pub SamePlaces : Cluster → Cluster → Type 0
SamePlaces c c' = c'.whereabouts ≡ c.whereabouts

-- where objects are once a doing of an activation on an object is done
abbrev pub Places : Cluster → Cluster → ℕ → Doing → Type 0
Places c c' own (Passes given) = SamePlaces c c'
Places c c' own (Prints text) = SamePlaces c c'
Places c c' own (Defines index v) = SamePlaces c c'
Places c c' own (Stores oid i v) = SamePlaces c c'
Places c c' own (Makes class given) = OneMore c c' own
Places c c' own (MakesVector of n) = OneMore c c' own
Places c c' own (Invokes op callee args) = SamePlaces c c'
Places c c' own (Returns given leaves section) = SamePlaces c c'
Places c c' own (Moves members to fixes) = ⊥
Places c c' own (Unfixes x) = SamePlaces c c'
Places c c' own Enters = SamePlaces c c'
Places c c' own (Waits condition) = SamePlaces c c'
Places c c' own (Signals condition) = SamePlaces c c'
Places c c' own Finishes = SamePlaces c c'
Places c c' own (Breaks why line) = SamePlaces c c'
