-- What holds of a program's worlds between turns, so that things of them can leave their nodes.
use Rattle.std.specs.Prelude.{◌≡◌, ◌<◌, ◌^◌, ℕ, false, true, length, Option, Some, None}
use Rattle.std.specs.List.{AllByRecursion as Each}
use Rattle.ec_node_frames.specs.Carried.{IsCarried}
use Rattle.ec_base.specs.Stack.{below_of, top_of}
use Rattle.ec_parcels.specs.Vectors.{VectorsAreMade}
use Rattle.ec_cluster.specs.Cluster.{CodeWorld}
use Rattle.ec_code.specs.declared.activation.CodeActivation.{CodeActivation}
use Rattle.ec_code.specs.declared.code.Parts.{Parts}
use Rattle.ec_monitors.specs.Laws.{HasDepths}
use Rattle.ec_monitors.specs.declared.record.MonitorRec.{MonitorRec}
use Rattle.ec_node_frames.specs.Frames.{RestsAt}
use Rattle.ec_generate.specs.declared.table.StopEntry.{StopEntry}
use Rattle.ec_world.specs.Objects.{object_at}
use Rattle.ec_world.specs.declared.class.ClassNo.TheVariants.{Node}
use Rattle.ec_world.specs.declared.object.ObjectRec.{ObjectRec}
use Rattle.ec_world.specs.declared.process.Proc.{Proc}

-- ---- processes

-- nothing has come yet of what its stop gives, where its action is done
abbrev pub StillWaits : Parts → CodeActivation → Type 0
StillWaits p a = (e : StopEntry) → RestsAt p a e → IsCarried p a e

abbrev pub TopWaits : Parts → Option CodeActivation → Type 0
TopWaits p None = Unit {0}
TopWaits p (Some a) = StillWaits p a

-- A process rests as between turns: the action of each activation below another one is done, and nothing has come yet of what the stop
-- of the one on top gives.
pub record RestsBetween (p : Parts) (proc : Proc CodeActivation) : Type 0 where
  pub below : Each (λ (a : CodeActivation). a.pending ≡ false) (below_of proc.activations)
  pub top : TopWaits p (top_of proc.activations)

-- so does each process
abbrev pub AllRest : Parts → CodeWorld → Type 0
AllRest p w = Each (RestsBetween p) w.processes

-- ---- objects

-- Each that holds the monitor or waits in it has entered it at least once, and 32 bits count its conditions.
pub record CanBeSpelled (m : MonitorRec) : Type 0 where
  pub depths : HasDepths m
  pub conditions : length m.conditions < 2 ^ 32

-- so it is with the monitor of each object
abbrev pub MonitorsHaveSpellings : CodeWorld → Type 0
MonitorsHaveSpellings w =
    (oid : ℕ) (o : ObjectRec) (m : MonitorRec) → object_at w.common.objects oid ≡ Some o → o.monitor ≡ Some m → CanBeSpelled m

-- the object of each node is fixed
abbrev pub NodesAreFixed : CodeWorld → Type 0
NodesAreFixed w = (oid : ℕ) (o : ObjectRec) → object_at w.common.objects oid ≡ Some o → o.class ≡ Node → o.fixed ≡ true

-- ---- worlds

-- A world between turns of a program: all processes rest, the class of each object has a number on the wire, each monitor has a spelling,
-- and nodes are fixed.
pub record IsBetween (p : Parts) (w : CodeWorld) : Type 0 where
  pub rest : AllRest p w
  pub vectors : VectorsAreMade p w
  pub monitors : MonitorsHaveSpellings w
  pub nodes : NodesAreFixed w
