-- An effect that comes to the activation on top of a process, on nodes that show a world.
use Rattle.std.specs.Prelude.{◌≡◌, ℕ, ◌++◌, [], List, Option, Some, None, length, slice_get, slice_set}
use Rattle.ec_cluster.specs.Cluster.{CodeWorld, Shows}
use Rattle.ec_cluster.specs.Steps.{Changes, with_common}
use Rattle.ec_cluster.specs.declared.cluster.Cluster.{Cluster}
use Rattle.ec_cluster.specs.Frames.{CanBegin, HasImages}
use Rattle.ec_code.specs.Activations.{code_meaning}
use Rattle.ec_code.specs.Typing.{Declared}
use Rattle.ec_code.specs.declared.activation.CodeActivation.{CodeActivation}
use Rattle.ec_cluster.specs.Acting.{IsTop}
use Rattle.ec_cluster.specs.SystemSteps.{CanTake}
use Rattle.ec_cluster.specs.Systems.{Strings}
use Rattle.ec_cluster.specs.declared.system.System.{System}
use Rattle.ec_world.specs.Outcomes.{dropped_at}
use Rattle.ec_world.specs.World.{begun_for, changed, given_up}
use Rattle.ec_world.specs.declared.doing.Section.{Section}
use Rattle.ec_world.specs.declared.object.ObjectRec.{ObjectRec}
use Rattle.ec_world.specs.declared.process.Proc.{Proc}
use Rattle.ec_world.specs.declared.stop.Effect.{Effect}
use Rattle.ec_world.specs.declared.stop.Who.{Who}

-- ---- what is shown before

-- nodes show a world, in which this activation is on top of these
pub record ShowsTop (c : Cluster) (w : CodeWorld) (below : List CodeActivation) (top : CodeActivation) (who : Who) : Type 0 where
  pub shows : Shows c w
  pub is_top : IsTop w who.process below top
  pub depth : who.depth ≡ length below
  pub owns : who.own ≡ top.own

-- some world is shown, in which some activation is on top
pub record ShowsSomeTop (c : Cluster) (who : Who) : Type 0 where
  pub world : CodeWorld
  pub below : List CodeActivation
  pub top : CodeActivation
  pub shows_top : ShowsTop c world below top who

-- an effect can come to it
pub record TakesIn (d : Declared) (c : Cluster) (w : CodeWorld) (below : List CodeActivation) (top : CodeActivation) (who : Who)
    (e : Effect) : Type 0 where
  pub images : HasImages d c
  pub shows_top : ShowsTop c w below top who
  pub can : CanTake c who.process below top e

-- so it can in some world
pub record CanBeTaken (c : Cluster) (who : Who) (e : Effect) : Type 0 where
  pub declared : Declared
  pub world : CodeWorld
  pub below : List CodeActivation
  pub top : CodeActivation
  pub takes : TakesIn declared c world below top who e

-- some world is shown, in which a process has an activation at this depth
pub record HasActivation (c : Cluster) (p depth : ℕ) : Type 0 where
  pub world : CodeWorld
  pub proc : Proc CodeActivation
  pub activation : CodeActivation
  pub shows : Shows c world
  pub is : slice_get world.processes p ≡ Some proc
  pub there : slice_get proc.activations depth ≡ Some activation

-- a section can begin as the next process, if there is one
abbrev pub CanFollow : System → Option Section → Type 0
CanFollow s None = Unit {0}
CanFollow s (Some section) = CanBegin s.cluster (length s.processes) 0 section.operation section.own []

-- ---- what is shown afterwards

-- a world with other objects
abbrev pub with_objects : CodeWorld → List ObjectRec → CodeWorld
with_objects w objects = with_common w (record w.common { objects = objects })

-- the world in which an effect has come to the activation on top of a process
abbrev pub with_changed : CodeWorld → ℕ → List CodeActivation → CodeActivation → Effect → CodeWorld
with_changed w p below top e = record w { processes = slice_set w.processes p (changed code_meaning below top e) }

-- a world in which a section has begun behind the other processes, if there is one
abbrev pub with_section : CodeWorld → Option Section → CodeWorld
with_section w started = record w { processes = w.processes ++ begun_for code_meaning started }

-- Nodes have come to show this world: each has the texts that it had and those of the world, and each object is where it was.
pub record Becomes (c c' : Cluster) (w : CodeWorld) : Type 0 where
  pub shows : Shows c' w
  pub texts : Changes (Strings c' w) c c'
  pub whereabouts : c'.whereabouts ≡ c.whereabouts

-- A process that fails has given up its monitors, and these were granted one.
pub record GivesUp (c' : Cluster) (w : CodeWorld) (p : ℕ) (owns : List ℕ) (e : Effect) (freed : List ℕ) : Type 0 where
  pub shows : Shows c' (with_objects w (given_up p owns e w.common.objects).0)
  pub freed_are : freed ≡ (given_up p owns e w.common.objects).1

-- What a process gives up of the monitor of an object is nothing: it doesn't hold it, or the object isn't there or has none.
pub record LeavesAlone (objects : List ObjectRec) (p oid : ℕ) : Type 0 where
  pub same : (dropped_at objects p oid).0 ≡ objects
  pub nobody : (dropped_at objects p oid).1 ≡ None
