-- A parcel that goes from one node to another, and what is shown when it has come.
use Rattle.std.specs.Prelude.{◌≡◌, ◌≢◌, ℕ, ◌≤◌, false, List, Some}
use Rattle.ec_node_frames.specs.Carried.{IsCarried}
use Rattle.ec_carrying.specs.Landing.{TextsAt}
use Rattle.ec_carrying.specs.Moves.{NotAny}
use Rattle.ec_cluster.specs.Cluster.{CodeWorld, Shows, place, stores}
use Rattle.ec_cluster.specs.Steps.{Changes}
use Rattle.ec_cluster.specs.declared.cluster.Cluster.{Cluster}
use Rattle.ec_cluster.specs.Frames.{HasImages}
use Rattle.ec_code.specs.Typing.{Declared}
use Rattle.ec_code.specs.declared.activation.CodeActivation.{CodeActivation}
use Rattle.ec_cluster.specs.Whereabouts.{made_count}
use Rattle.ec_parcels.specs.Classes.{ClassTable}
use Rattle.ec_node_frames.specs.Frames.{RestsAt}
use Rattle.ec_objects.specs.Values.{TextsFit}
use Rattle.ec_parcels.specs.Owners.{blocks_in, values_in}
use Rattle.ec_parcels.specs.Parcels.{ActivationGoes, ObjectGoes, Packs}
use Rattle.ec_generate.specs.declared.table.StopEntry.{StopEntry}
use Rattle.ec_things.specs.Store.{Store}
use Rattle.ec_wire.specs.WireForm.{IsWire}
use Rattle.ec_wire.specs.declared.parcel.Contents.{Contents}
use Rattle.ec_wire.specs.declared.parcel.ObjectPart.{ObjectPart}
use Rattle.ec_world.specs.Group.{Has}
use Rattle.ec_world.specs.Objects.{object_at}
use Rattle.ec_world.specs.declared.object.ObjectRec.{ObjectRec}

-- The nodes show a world, in which each member of a group is an object. These bytes are the parcel of the group's things at a node, none
-- of whose objects is fixed; and another node has room for all of them. The images are those of the program, and each activation that goes
-- rests at a stop from which it can go.
pub record IsCarriedIn (table : ClassTable) (c : Cluster) (from to : ℕ) (bytes : List ℕ) (d : Declared) (w : CodeWorld)
    (members : List ℕ) (x : Contents) : Type 0 where
  pub shows : Shows c w
  pub images : HasImages d c
  pub each_is : (oid : ℕ) → Has members oid → (o : ObjectRec) × (object_at w.common.objects oid ≡ Some o)
  pub packs : Packs table c w members from x
  pub wire : IsWire x bytes
  pub unfixed : (oid : ℕ) (o : ObjectRec) → ObjectGoes c w members from oid o → o.fixed ≡ false
  pub ready : (p depth : ℕ) (a : CodeActivation) (e : StopEntry) → ActivationGoes c w members from p depth a → RestsAt c.parts a e →
      IsCarried c.parts a e
  pub apart : to ≢ from
  pub store : Store
  pub there : stores c to ≡ Some store
  pub blocks : blocks_in table x ≤ store.free
  pub texts : TextsFit store (values_in x)

-- there is such a world, such a group and such a parcel
pub record CanCarry (table : ClassTable) (c : Cluster) (from to : ℕ) (bytes : List ℕ) : Type 0 where
  pub declared : Declared
  pub world : CodeWorld
  pub members : List ℕ
  pub contents : Contents
  pub carried : IsCarriedIn table c from to bytes declared world members contents

-- The nodes show the same world, with the objects in the parcel at the node to which it went. This node has got their texts, and all else
-- is as it was.
pub record Carried (old new : Cluster) (w : CodeWorld) (x : Contents) (to : ℕ) : Type 0 where
  pub shows : Shows new w
  pub changes : Changes (TextsAt to (values_in x)) old new
  pub there : (part : ObjectPart) → Has x.objects part → place new part.number ≡ Some to
  pub others : (oid : ℕ) → NotAny x.objects oid → place new oid ≡ place old oid
  pub count : made_count new.whereabouts ≡ made_count old.whereabouts
