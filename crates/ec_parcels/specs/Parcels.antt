-- What a parcel of a group holds: a group of objects is to go to a node, and from each other node that has members one parcel goes.
use Rattle.std.specs.Prelude.{◌≡◌, ℕ, List, Some}
use Rattle.ec_cluster.specs.Cluster.{CodeWorld, place}
use Rattle.ec_cluster.specs.declared.cluster.Cluster.{Cluster}
use Rattle.ec_code.specs.declared.activation.CodeActivation.{CodeActivation}
use Rattle.ec_monitors.specs.declared.record.MonitorRec.{MonitorRec}
use Rattle.ec_parcels.specs.Activations.{activation_part_of}
use Rattle.ec_parcels.specs.Classes.{ClassTable, number_of}
use Rattle.ec_parcels.specs.Objects.{part_of}
use Rattle.ec_node_frames.specs.Frames.{RestsAt}
use Rattle.ec_world.specs.Things.{activation_at}
use Rattle.ec_generate.specs.declared.table.StopEntry.{StopEntry}
use Rattle.ec_wire.specs.declared.parcel.ActivationPart.{ActivationPart}
use Rattle.ec_wire.specs.declared.parcel.Contents.{Contents}
use Rattle.ec_wire.specs.declared.parcel.MonitorPart.{MonitorPart}
use Rattle.ec_wire.specs.declared.parcel.ObjectPart.{ObjectPart}
use Rattle.ec_world.specs.Group.{Has}
use Rattle.ec_world.specs.Objects.{object_at}
use Rattle.ec_world.specs.declared.object.ObjectRec.{ObjectRec}

-- Members are the numbers of the group's objects, and k is a node.
module _ (c : Cluster) (w : CodeWorld) (members : List ℕ) (k : ℕ) where
  -- an object of the group that is at the node
  pub record ObjectGoes (oid : ℕ) (o : ObjectRec) : Type 0 where
    pub member : Has members oid
    pub at : place c oid ≡ Some k
    pub is : object_at w.common.objects oid ≡ Some o

  -- an activation on such an object
  pub record ActivationGoes (p d : ℕ) (a : CodeActivation) : Type 0 where
    pub member : Has members a.own
    pub at : place c a.own ≡ Some k
    pub is : activation_at w.processes p d ≡ Some a

  -- a part is of an activation that goes
  pub record IsOfActivation (part : ActivationPart) : Type 0 where
    pub activation : CodeActivation
    pub entry : StopEntry
    pub goes : ActivationGoes part.process part.depth activation
    pub rests : RestsAt c.parts activation entry
    pub is : part ≡ activation_part_of part.process part.depth c.parts activation entry

  -- a part is of the monitor of an object that goes
  pub record IsOfMonitor (part : MonitorPart) : Type 0 where
    pub object : ObjectRec
    pub goes : ObjectGoes part.object object
    pub has : object.monitor ≡ Some part.monitor

module _ (table : ClassTable) (c : Cluster) (w : CodeWorld) (members : List ℕ) (k : ℕ) where
  -- a part is of an object that goes, by the number of its class on the wire
  pub record IsOfObject (part : ObjectPart) : Type 0 where
    pub object : ObjectRec
    pub class : ℕ
    pub goes : ObjectGoes c w members k part.number object
    pub numbered : number_of table object.class ≡ Some class
    pub is : part ≡ part_of part.number class object

  -- A parcel holds the objects of the group at the node, their monitors and the activations on them, and nothing else.
  pub record Packs (x : Contents) : Type 0 where
    pub objects : (part : ObjectPart) → Has x.objects part → IsOfObject part
    pub each_object : (oid : ℕ) (o : ObjectRec) → ObjectGoes c w members k oid o →
        (part : ObjectPart) × (Has x.objects part × (part.number ≡ oid))
    pub monitors : (part : MonitorPart) → Has x.monitors part → IsOfMonitor c w members k part
    pub each_monitor : (oid : ℕ) (o : ObjectRec) (m : MonitorRec) → ObjectGoes c w members k oid o → o.monitor ≡ Some m →
        Has x.monitors (record { object = oid; monitor = m })
    pub activations : (part : ActivationPart) → Has x.activations part → IsOfActivation c w members k part
    pub each_activation : (p d : ℕ) (a : CodeActivation) → ActivationGoes c w members k p d a →
        (part : ActivationPart) × (Has x.activations part × ((part.process ≡ p) × (part.depth ≡ d)))
