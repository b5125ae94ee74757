-- What a reader is told of nodes that run a program: which world they show after an entry, and what they have run in between.
use Rattle.std.specs.Prelude.{◌≡◌, ◌⊎◌, ℕ, true, false, List, [], length, Option, Some, None, IsSome}
use Rattle.ec_base.specs.Stack.{top_of}
use Rattle.ec_cluster.specs.Cluster.{CodeWorld}
use Rattle.ec_cluster.specs.Steps.{Changes}
use Rattle.ec_cluster.specs.Systems.{Mirrors, Strings}
use Rattle.ec_cluster.specs.declared.system.System.{System}
use Rattle.ec_code.specs.Activations.{code_meaning, code_silent}
use Rattle.ec_code.specs.declared.activation.CodeActivation.{CodeActivation}
use Rattle.ec_legs.specs.Going.{IsDoneTop, IsFew, Ran, RanNatively}
use Rattle.ec_rooms.specs.Places.{HasPlaces}
use Rattle.ec_world.specs.Moves.{OperatorMove, is_idle_move}
use Rattle.ec_world.specs.World.{Action, GoOn, Turn, stack_at}

-- ---- a world that is shown

-- Nodes show a world, with each object where the world's events have it.
pub record ShowsPlaced (s : System) (w : CodeWorld) : Type 0 where
  pub mirrors : Mirrors s w
  pub places : HasPlaces s.cluster w

-- Nodes have come to show a world by what the kernel or the mover did: each has the texts that it had and those of this world.
pub record CameToShow (old new : System) (w : CodeWorld) : Type 0 where
  pub shows : ShowsPlaced new w
  pub texts : Changes (Strings new.cluster w) old.cluster new.cluster

-- ---- the code behind a stop

-- the world in which a process has gone on
abbrev pub gone_on : System → CodeWorld → ℕ → CodeWorld
gone_on s w p = GoOn code_meaning (code_silent s.cluster.parts) w p

-- The activation on top, whose action is done, has gone on: the node of its own object has run so many instructions of its own code, and
-- nothing else has changed but what these do.
pub record RanToStop (old new : System) (w : CodeWorld) (p steps : ℕ) : Type 0 where
  pub below : List CodeActivation
  pub top : CodeActivation
  pub is_done : IsDoneTop w p below top
  pub ran : Ran old.cluster new.cluster top.own steps
  pub native : RanNatively old.cluster new.cluster p (length below) top.own steps
  pub few : IsFew old.cluster top steps
  pub parts : new.cluster.parts ≡ old.cluster.parts
  pub images : new.cluster.images ≡ old.cluster.images
  pub whereabouts : new.cluster.whereabouts ≡ old.cluster.whereabouts
  pub output : new.output ≡ old.output

-- the activation on top, if any, may not go on: what it asks for is still to be done
abbrev pub Waits : Option CodeActivation → Type 0
Waits None = Unit {0}
Waits (Some top) = top.pending ≡ true

-- no activation of the process goes on, and nothing has changed
pub record Rested (old new : System) (w : CodeWorld) (p : ℕ) : Type 0 where
  pub waits : Waits (top_of (stack_at w p))
  pub same : new ≡ old
  pub nothing : gone_on old w p ≡ w

-- the process has gone on, or rests with no instruction run
abbrev pub RanOrRested : System → System → CodeWorld → ℕ → ℕ → Type 0
RanOrRested old new w p steps = RanToStop old new w p steps ⊎ (Rested old new w p × (steps ≡ 0))

-- ---- turns

-- the world after a turn of process p
abbrev pub turned : System → CodeWorld → ℕ → CodeWorld
turned s w p = Turn code_meaning (code_silent s.cluster.parts) w p

-- The process is Ready and has an activation, and the nodes show the world after the turn. In the middle they had come to show the world
-- after the action; from there on the process went on by so many instructions, or rested.
pub record TookTurn (old new : System) (w : CodeWorld) (p steps : ℕ) : Type 0 where
  pub top : IsSome (top_of (stack_at w p))
  pub middle : System
  pub acted : CameToShow old middle (Action code_meaning w p)
  pub after : RanOrRested middle new (Action code_meaning w p) p steps
  pub shows : ShowsPlaced new (turned old w p)

-- A process that is not there or not Ready, or that has no activation, does nothing.
pub record NoTurn (old new : System) (w : CodeWorld) (p : ℕ) : Type 0 where
  pub none : stack_at w p ≡ []
  pub same : new ≡ old
  pub nothing : turned old w p ≡ w

-- ---- moves by the operator

-- The move is not idle, and the nodes have come to show the world after it.
pub record MovedGroup (old new : System) (w : CodeWorld) (o k : ℕ) : Type 0 where
  pub moves : is_idle_move w.common o k ≡ false
  pub comes : CameToShow old new (OperatorMove w o k)

-- An idle move does nothing.
pub record NoMove (old new : System) (w : CodeWorld) (o k : ℕ) : Type 0 where
  pub idle : is_idle_move w.common o k ≡ true
  pub same : new ≡ old
  pub nothing : OperatorMove w o k ≡ w
