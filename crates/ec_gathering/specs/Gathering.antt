-- A group of objects that goes to a node in parcels, one from each other node that has some of it.
use Rattle.std.specs.Prelude.{◌≡◌, ◌≢◌, ℕ, Bool, List, length, Some, slice_get}
use Rattle.ec_node_frames.specs.Carried.{IsCarried}
use Rattle.ec_cluster.specs.Cluster.{CodeWorld, Shows, place}
use Rattle.ec_cluster.specs.declared.cluster.Cluster.{Cluster}
use Rattle.ec_code.specs.declared.activation.CodeActivation.{CodeActivation}
use Rattle.ec_parcels.specs.Classes.{ClassTable, IsClassTable}
use Rattle.ec_node_frames.specs.Frames.{RestsAt}
use Rattle.ec_world.specs.Held.{Distinct}
use Rattle.ec_world.specs.Things.{activation_at}
use Rattle.ec_parcels.specs.Parcels.{Packs}
use Rattle.ec_generate.specs.declared.table.StopEntry.{StopEntry}
use Rattle.ec_wire.specs.WireForm.{KeepsRules}
use Rattle.ec_wire.specs.declared.parcel.Contents.{Contents}
use Rattle.ec_world.specs.Group.{Has}
use Rattle.ec_world.specs.declared.object.ObjectRec.{ObjectRec}

-- These are the contents of the parcels of a group that goes to node `to`: one from each other node that has a member, and none from
-- any node twice.
pub record PacksAll (table : ClassTable) (c : Cluster) (w : CodeWorld) (members : List ℕ) (to : ℕ) (xs : List Contents) : Type 0 where
  -- of which node each of them is
  pub nodes : List ℕ
  pub many : length nodes ≡ length xs
  pub once : Distinct nodes
  -- each packs what the group has at its node
  pub each : (i k : ℕ) (x : Contents) → slice_get nodes i ≡ Some k → slice_get xs i ≡ Some x → Packs table c w members k x
  -- which is another node
  pub apart : (k : ℕ) → Has nodes k → k ≢ to
  -- each other node that has a member is one of them
  pub all : (oid k : ℕ) → Has members oid → place c oid ≡ Some k → k ≢ to → Has nodes k

-- No activation of a group whose action is done has the result of its stop yet.
abbrev pub AllWait : Cluster → CodeWorld → List ℕ → Type 0
AllWait c w members =
    (p d : ℕ) (a : CodeActivation) (e : StopEntry) → activation_at w.processes p d ≡ Some a → Has members a.own → RestsAt c.parts a e →
    IsCarried c.parts a e

-- A group can go to node `to` in parcels with these contents: the nodes show the world, the parcels are the group's, by numbers of classes
-- that are each of one class, and keep the rules of the wire form, and the group's activations wait.
pub record CanGather (table : ClassTable) (c : Cluster) (w : CodeWorld) (members : List ℕ) (to : ℕ) (xs : List Contents) : Type 0 where
  pub shows : Shows c w
  pub numbers : IsClassTable table
  pub packs : PacksAll table c w members to xs
  pub rules : (x : Contents) → Has xs x → KeepsRules x
  pub waits : AllWait c w members

-- Two worlds have the same objects, but for which of them are fixed, the same constants and the same activations.
pub record ButFixed (w w' : CodeWorld) : Type 0 where
  pub processes : w'.processes ≡ w.processes
  pub globals : w'.common.globals ≡ w.common.globals
  pub many : length w'.common.objects ≡ length w.common.objects
  pub each : (i : ℕ) (o : ObjectRec) → slice_get w.common.objects i ≡ Some o →
      (fixed : Bool) × (slice_get w'.common.objects i ≡ Some (record o { fixed = fixed }))
