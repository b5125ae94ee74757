-- The parcels of a group come to a node, one after another.
use Rattle.std.specs.Prelude.{◌≡◌, ◌≢◌, ◌<◌, ◌⊎◌, ℕ, false, Bool, List, Option, Some, None, length}
use Rattle.ec_node_frames.specs.Carried.{IsCarried}
use Rattle.ec_cluster.specs.Cluster.{CodeWorld, Shows, place, stores}
use Rattle.ec_cluster.specs.Steps.{Changes}
use Rattle.ec_cluster.specs.declared.cluster.Cluster.{Cluster}
use Rattle.ec_code.specs.Typing.{Declared}
use Rattle.ec_code.specs.declared.activation.CodeActivation.{CodeActivation}
use Rattle.ec_code.specs.declared.code.Parts.{Parts}
use Rattle.ec_cluster.specs.Whereabouts.{made_count}
use Rattle.ec_gathering.specs.Shipping.{EachIsShipped, froms, parcels_of}
use Rattle.ec_gathering.specs.declared.shipping.Shipment.{Shipment}
use Rattle.ec_parcels.specs.Owners.{all_blocks, all_values}
use Rattle.ec_parcels.specs.Classes.{ClassTable, IsClassTable}
use Rattle.ec_objects.specs.Lacks.{HasRoomForAll}
use Rattle.ec_node_frames.specs.Frames.{RestsAt}
use Rattle.ec_world.specs.Held.{Distinct}
use Rattle.ec_world.specs.Things.{activation_at}
use Rattle.ec_generate.specs.declared.table.StopEntry.{StopEntry}
use Rattle.ec_cluster.specs.Systems.{Steady, Strings}
use Rattle.ec_things.specs.Store.{Store}
use Rattle.ec_world.specs.Group.{Has}
use Rattle.ec_world.specs.Objects.{object_at}
use Rattle.ec_world.specs.Outcomes.{flagged}
use Rattle.ec_world.specs.declared.common.Common.{Common}
use Rattle.ec_world.specs.declared.object.ObjectRec.{ObjectRec}

-- an object is fixed, or not, if there is one
abbrev pub flag_if : Common → Option ℕ → Bool → Common
flag_if c None fixed = c
flag_if c (Some x) fixed = flagged c x fixed

-- No activation has what its stop gives before code goes on behind the stop.
abbrev pub NoneHasResult : Parts → CodeWorld → Type 0
NoneHasResult p w =
    (process depth : ℕ) (a : CodeActivation) (e : StopEntry) → activation_at w.processes process depth ≡ Some a → RestsAt p a e →
    IsCarried p a e

-- an object is there, and not fixed
pub record IsLoose (w : CodeWorld) (oid : ℕ) : Type 0 where
  pub object : ObjectRec
  pub is : object_at w.common.objects oid ≡ Some object
  pub free : object.fixed ≡ false

-- What is left of a group, none of which is fixed, is to go to node `to` in these shipments.
pub record Sends (d : Declared) (table : ClassTable) (c : Cluster) (w : CodeWorld) (members : List ℕ) (to : ℕ)
    (shipments : List Shipment) : Type 0 where
  pub shows : Shows c w
  pub steady : Steady d c
  pub numbers : IsClassTable table
  pub ships : EachIsShipped table c w members shipments
  pub once : Distinct (froms shipments)
  pub apart : (k : ℕ) → Has (froms shipments) k → (k < length c.nodes) × (k ≢ to)
  pub all : (oid k : ℕ) → Has members oid → place c oid ≡ Some k → k ≢ to → Has (froms shipments) k
  pub loose : (oid : ℕ) → Has members oid → IsLoose w oid
  pub waits : NoneHasResult c.parts w
  pub there : to < length c.nodes

-- the node has room for all of their parcels together
pub record Brings (d : Declared) (table : ClassTable) (c : Cluster) (w : CodeWorld) (members : List ℕ) (to : ℕ)
    (shipments : List Shipment) : Type 0 where
  pub sends : Sends d table c w members to shipments
  pub room : (s : Store) → stores c to ≡ Some s →
      HasRoomForAll s (all_blocks table (parcels_of shipments)) (all_values (parcels_of shipments))

-- some group
pub record BringsSome (table : ClassTable) (c : Cluster) (shipments : List Shipment) (to : ℕ) : Type 0 where
  pub declared : Declared
  pub world : CodeWorld
  pub members : List ℕ
  pub brings : Brings declared table c world members to shipments

-- Some of a group has come to node `to`: all else is where it was, and each node has the texts that it had and those of the world.
pub record Came (old new : Cluster) (w : CodeWorld) (members : List ℕ) (to : ℕ) : Type 0 where
  pub shows : Shows new w
  pub texts : Changes (Strings new w) old new
  pub places : (oid : ℕ) → (place new oid ≡ place old oid) ⊎ (Has members oid × (place new oid ≡ Some to))
  pub count : made_count new.whereabouts ≡ made_count old.whereabouts

-- all of it has
pub record Brought (old new : Cluster) (w : CodeWorld) (members : List ℕ) (to : ℕ) : Type 0 where
  pub came : Came old new w members to
  pub all : (oid k : ℕ) → Has members oid → place new oid ≡ Some k → k ≡ to
