-- The two steps of an action on nodes: what is done to the world beside its processes, and what then becomes of these.
use Rattle.std.specs.Prelude.{◌≡◌, ℕ, suc, List, length, Option, Some, None, replicate, slice_get}
use Rattle.ec_activations.specs.Frames.{taker_of}
use Rattle.ec_base.specs.Stack.{top_of}
use Rattle.ec_cluster.specs.Cluster.{CodeWorld}
use Rattle.ec_cluster.specs.Makings.{CanMake}
use Rattle.ec_cluster.specs.Steps.{CanDefine, Changes, HasField, HasObject, HasRoomAt, with_common}
use Rattle.ec_cluster.specs.declared.cluster.Cluster.{Cluster}
use Rattle.ec_cluster.specs.Frames.{CanBegin, HasRoomFor, tables_on}
use Rattle.ec_code.specs.Activations.{code_meaning}
use Rattle.ec_code.specs.declared.activation.CodeActivation.{CodeActivation}
use Rattle.ec_cluster.specs.Whereabouts.{made_count}
use Rattle.ec_node_frames.specs.Beginning.{HasEntry}
use Rattle.ec_node_frames.specs.Frames.{RestsAt}
use Rattle.ec_generate.specs.declared.table.OperationTable.{OperationTable}
use Rattle.ec_generate.specs.declared.table.StopEntry.{StopEntry}
use Rattle.ec_cluster.specs.Systems.{Mirrors, Strings}
use Rattle.ec_cluster.specs.declared.system.System.{System}
use Rattle.ec_world.specs.Objects.{class_at, element_kind}
use Rattle.ec_world.specs.Outcomes.{done}
use Rattle.ec_world.specs.Values.{default_of, new_fields}
use Rattle.ec_world.specs.World.{given_up, owns_of, settled}
use Rattle.ec_world.specs.declared.class.ClassNo.TheVariants.{Vector}
use Rattle.ec_world.specs.declared.class.ClassRec.{ClassRec}
use Rattle.ec_world.specs.declared.doing.Doing.{Doing}
use Rattle.ec_world.specs.declared.doing.Doing.TheVariants.{Passes, Prints, Defines, Stores, Makes, MakesVector, Invokes, Returns}
use Rattle.ec_world.specs.declared.doing.Doing.TheVariants.{Moves, Unfixes, Enters, Waits, Signals, Finishes, Breaks}
use Rattle.ec_world.specs.declared.doing.Outcome.{Outcome}
use Rattle.ec_world.specs.declared.doing.Section.{Section}
use Rattle.ec_world.specs.declared.node.Kind.{Kind}
use Rattle.ec_world.specs.declared.stop.Effect.{Effect}
use Rattle.ec_world.specs.declared.stop.Effect.TheVariants.{GoesOn, Calls, Leaves, Blocks, Ends, Fails}
use Rattle.ec_world.specs.declared.stop.Who.{Who}
use Rattle.ec_world.specs.declared.value.Value.{Value}

-- ---- the first step

-- a class is there, and this can be done by it
abbrev pub ByClass : Option ClassRec → (ClassRec → Type 0) → Type 0
ByClass None Can = ⊥
ByClass (Some k) Can = Can k

-- What a doing names is there, and where it brings blocks or texts there is room for them. Moves are another matter.
abbrev pub CanBeDone : Cluster → Who → Doing → Type 0
CanBeDone c who (Passes given) = Unit {0}
CanBeDone c who (Prints text) = Unit {0}
CanBeDone c who (Defines index v) = CanDefine c index v
CanBeDone c who (Stores oid i v) = HasField c oid i × HasRoomAt c oid v
CanBeDone c who (Makes class given) =
    ByClass (class_at c.parts.classes class)
    (λ k. CanMake c who.own (suc (made_count c.whereabouts)) class (new_fields given k.fields))
CanBeDone c who (MakesVector of n) =
    CanMake c who.own (suc (made_count c.whereabouts)) (Vector of) (replicate n (default_of (element_kind of)))
CanBeDone c who (Invokes op own args) = Unit {0}
CanBeDone c who (Returns given leaves section) = HasObject c who.own
CanBeDone c who (Moves members to fixes) = ⊥
CanBeDone c who (Unfixes x) = HasObject c x
CanBeDone c who Enters = HasObject c who.own
CanBeDone c who (Waits condition) = HasObject c who.own
CanBeDone c who (Signals condition) = HasObject c who.own
CanBeDone c who Finishes = Unit {0}
CanBeDone c who (Breaks why line) = Unit {0}

-- the world with what a doing leaves beside its processes
abbrev pub world_done : CodeWorld → Who → Doing → CodeWorld
world_done w who doing = with_common w (done w.common who doing).0

-- The doing of an action is done to a world that was shown: the world with what the table of actions leaves beside processes is shown now,
-- what becomes of processes is answered, and each node has the texts that it had and those of the world that is now shown.
pub record Does (old new : System) (w : CodeWorld) (who : Who) (doing : Doing) (answer : Outcome) : Type 0 where
  pub answers : (done w.common who doing).1 ≡ answer
  pub mirrors : Mirrors new (world_done w who doing)
  pub texts : Changes (Strings new.cluster (world_done w who doing)) old.cluster new.cluster

-- ---- the second step

-- An activation rests at an entry of its stop table, what waits there is the variable that takes what the stop gives, and its node has room
-- for this.
pub record CanFinish (c : Cluster) (a : CodeActivation) (given : Option Value) : Type 0 where
  pub entry : StopEntry
  pub rests : RestsAt c.parts a entry
  pub waits : a.into ≡ taker_of entry.result
  pub room : HasRoomFor c a.own entry given

-- the activation below takes what is given
abbrev pub TakesBelow : Cluster → Option CodeActivation → Option Value → Type 0
TakesBelow c None given = ⊥
TakesBelow c (Some a) given = CanFinish c a given

-- an effect can come to the activation on top of these in process p
abbrev pub CanTake : Cluster → ℕ → List CodeActivation → CodeActivation → Effect → Type 0
CanTake c p below top (GoesOn given) = CanFinish c top given
CanTake c p below top (Calls op own args) = CanFinish c top None × CanBegin c p (suc (length below)) op own args
CanTake c p below top (Leaves given) = TakesBelow c (top_of below) given
CanTake c p below top (Blocks queue own) = CanFinish c top None
CanTake c p below top Ends = Unit {0}
CanTake c p below top (Fails why line) = Unit {0}

-- a section can begin where an activation on its object has just gone: its operation has an entry on each kind
abbrev pub CanStart : Cluster → ℕ → Option Section → Type 0
CanStart c own None = Unit {0}
CanStart c own (Some section) =
    (section.own ≡ own)
    × ((kind : Kind) → (table : OperationTable) × (slice_get (tables_on c kind) section.operation ≡ Some table) × HasEntry table)

-- a section begins only behind a return
abbrev pub StartsBehind : Effect → Option Section → Type 0
StartsBehind (Leaves given) section = Unit {0}
StartsBehind (GoesOn given) section = section ≡ None
StartsBehind (Calls op own args) section = section ≡ None
StartsBehind (Blocks queue own) section = section ≡ None
StartsBehind Ends section = section ≡ None
StartsBehind (Fails why line) section = section ≡ None

-- what an outcome asks of nodes
pub record CanSettle (c : Cluster) (p : ℕ) (below : List CodeActivation) (top : CodeActivation) (o : Outcome) : Type 0 where
  pub takes : CanTake c p below top o.effect
  pub starts : CanStart c top.own o.started
  pub behind : StartsBehind o.effect o.started

-- the world in which an outcome has become of processes, and a process that fails has given up its monitors
abbrev pub world_settled : CodeWorld → ℕ → List CodeActivation → CodeActivation → Outcome → CodeWorld
world_settled w p below top o =
    settled code_meaning w p below top w.common o (given_up p (owns_of code_meaning below top) o.effect w.common.objects)

-- The outcome has become of processes of a world that was shown: this world is shown now, and each node has the texts that it had and
-- those of it.
pub record Settles (old new : System) (w : CodeWorld) (p : ℕ) (below : List CodeActivation) (top : CodeActivation) (o : Outcome) :
    Type 0 where
  pub mirrors : Mirrors new (world_settled w p below top o)
  pub texts : Changes (Strings new.cluster (world_settled w p below top o)) old.cluster new.cluster
