-- When the things of a group can go from a node, and which things these are, in the order in which a parcel has them.
use Rattle.std.specs.Prelude.{◌≡◌, ◌≤◌, ◌<◌, ◌==◌, ◌&&◌, ℕ, zero, suc, Bool, false, if◌then◌else◌, IsSome, List, [], ◌∷◌, ◌++◌, length}
use Rattle.std.specs.Prelude.{Option, Some, None, option_to_list, slice_get}
use Rattle.ec_activations.specs.Frames.{Numbered, stop_of}
use Rattle.ec_node_frames.specs.Carried.{carried}
use Rattle.ec_asking.specs.Bare.{IsBareProgram}
use Rattle.ec_asking.specs.Typed.{IsTypedOnce}
use Rattle.ec_cluster.specs.Cluster.{CodeWorld, place}
use Rattle.ec_cluster.specs.declared.cluster.Cluster.{Cluster}
use Rattle.ec_code.specs.Typing.{Declared}
use Rattle.ec_code.specs.declared.activation.CodeActivation.{CodeActivation}
use Rattle.ec_packing.specs.Between.{AllRest, CanBeSpelled}
use Rattle.ec_monitors.specs.declared.record.MonitorRec.{MonitorRec}
use Rattle.ec_parcels.specs.Activations.{activation_part_of}
use Rattle.ec_parcels.specs.Classes.{ClassTable, number_of}
use Rattle.ec_parcels.specs.Objects.{monitor_part_of, part_of}
use Rattle.ec_node_frames.specs.Frames.{RestsAt}
use Rattle.ec_world.specs.Things.{activation_at}
use Rattle.ec_parcels.specs.Parcels.{ActivationGoes, ObjectGoes}
use Rattle.ec_generate.specs.declared.table.StopEntry.{StopEntry}
use Rattle.ec_cluster.specs.Systems.{Runs}
use Rattle.ec_cluster.specs.declared.system.System.{System}
use Rattle.ec_wire.specs.declared.parcel.ActivationPart.{ActivationPart}
use Rattle.ec_wire.specs.declared.parcel.MonitorPart.{MonitorPart}
use Rattle.ec_wire.specs.declared.parcel.ObjectPart.{ObjectPart}
use Rattle.ec_world.specs.Group.{IsRising, is_in}
use Rattle.ec_world.specs.Objects.{object_at}
use Rattle.ec_world.specs.declared.object.ObjectRec.{ObjectRec}
use Rattle.ec_world.specs.declared.process.Proc.{Proc}

-- ---- when they can go

-- A system runs a world in which the program's own object has no fields, and all processes rest as between turns; on each line of the
-- program a live variable has one type. The members of a group rise, and they are to go from one of the nodes. Of those that are there the
-- class has a number on the wire and the monitor has a spelling, and at most 100 values go with an activation on one of them.
pub record CanGo (d : Declared) (s : System) (w : CodeWorld) (table : ClassTable) (members : List ℕ) (from : ℕ) : Type 0 where
  pub runs : Runs d s w
  pub bare : IsBareProgram w.common
  pub typed : IsTypedOnce s.cluster.parts
  pub rest : AllRest s.cluster.parts w
  pub rising : IsRising members
  pub node : from < length s.cluster.nodes
  pub numbered : (oid : ℕ) (o : ObjectRec) → ObjectGoes s.cluster w members from oid o → IsSome (number_of table o.class)
  pub monitors : (oid : ℕ) (o : ObjectRec) (m : MonitorRec) → ObjectGoes s.cluster w members from oid o → o.monitor ≡ Some m →
      CanBeSpelled m
  pub few : (p depth : ℕ) (a : CodeActivation) (e : StopEntry) → ActivationGoes s.cluster w members from p depth a →
      RestsAt s.cluster.parts a e → length (carried e a.pending) ≤ 100

-- in some world
pub record CanGoInSome (s : System) (table : ClassTable) (members : List ℕ) (from : ℕ) : Type 0 where
  pub declared : Declared
  pub world : CodeWorld
  pub goes : CanGo declared s world table members from

-- by some numbers of classes
abbrev pub CanGoBySome : System → List ℕ → ℕ → Type 0
CanGoBySome s members from = (table : ClassTable) × CanGoInSome s table members from

-- ---- what goes

-- f at each number below one, joined end to end
abbrev pub up_to : {A : Type 0} → (ℕ → List A) → ℕ → List A
up_to f zero = []
up_to f (suc n) = up_to f n ++ f n

-- ---- objects

abbrev pub is_at : ℕ → Option ℕ → Bool
is_at k None = false
is_at k (Some j) = j == k

-- whether a node is the place of an object
abbrev pub is_here : Cluster → ℕ → ℕ → Bool
is_here c k oid = is_at k (place c oid)

abbrev pub with_number : ℕ → ObjectRec → Option ℕ → List ObjectPart
with_number oid o None = []
with_number oid o (Some number) = part_of oid number o ∷ []

abbrev pub object_if : ClassTable → ℕ → Option ObjectRec → List ObjectPart
object_if table oid None = []
object_if table oid (Some o) = with_number oid o (number_of table o.class)

-- what goes of an object, if it is at the node
abbrev pub object_goes : ClassTable → Cluster → CodeWorld → ℕ → ℕ → List ObjectPart
object_goes table c w k oid = if is_here c k oid then object_if table oid (object_at w.common.objects oid) else []

abbrev pub monitor_if : ℕ → Option ObjectRec → List MonitorPart
monitor_if oid None = []
monitor_if oid (Some o) = option_to_list (monitor_part_of oid o.monitor)

-- what goes of its monitor
abbrev pub monitor_goes : Cluster → CodeWorld → ℕ → ℕ → List MonitorPart
monitor_goes c w k oid = if is_here c k oid then monitor_if oid (object_at w.common.objects oid) else []

-- ---- activations

-- how many activations a process has
abbrev pub depths_if : Option (Proc CodeActivation) → ℕ
depths_if None = 0
depths_if (Some proc) = length proc.activations

module _ (c : Cluster) (w : CodeWorld) (members : List ℕ) (k : ℕ) where
  abbrev pub at_stop : ℕ → ℕ → CodeActivation → Option Numbered → List ActivationPart
  at_stop p depth a None = []
  at_stop p depth a (Some s) = activation_part_of p depth c.parts a s.entry ∷ []

  abbrev pub activation_if : ℕ → ℕ → Option CodeActivation → List ActivationPart
  activation_if p depth None = []
  activation_if p depth (Some a) =
      if is_here c k a.own && is_in a.own members then at_stop p depth a (stop_of c.parts a) else []

  -- what goes of an activation, if it is on a member at the node
  abbrev pub activation_goes : ℕ → ℕ → List ActivationPart
  activation_goes p depth = activation_if p depth (activation_at w.processes p depth)

  -- what goes of a process
  abbrev pub process_goes : ℕ → List ActivationPart
  process_goes p = up_to (activation_goes p) (depths_if (slice_get w.processes p))
