-- What both steps of an action find on nodes, but for room.
use Rattle.std.specs.Prelude.{◌≡◌, ℕ, suc, ◌^◌, ◌*◌, ◌<◌, ◌≤◌, IsSome, List, length, Some, None, replicate, slice_get}
use Rattle.ec_activations.specs.Frames.{taker_of}
use Rattle.ec_base.specs.Stack.{top_of}
use Rattle.ec_cluster.specs.Cluster.{stores}
use Rattle.ec_cluster.specs.Steps.{HasField, HasObject}
use Rattle.ec_cluster.specs.declared.cluster.Cluster.{Cluster}
use Rattle.ec_cluster.specs.Finding.{NoFrame}
use Rattle.ec_cluster.specs.Frames.{HasNode, tables_on}
use Rattle.ec_code.specs.declared.activation.CodeActivation.{CodeActivation}
use Rattle.ec_code.specs.declared.code.Parts.{Parts}
use Rattle.ec_cluster.specs.Whereabouts.{made_count}
use Rattle.ec_node_frames.specs.Beginning.{HasEntry}
use Rattle.ec_node_frames.specs.Frames.{RestsAt}
use Rattle.ec_world.specs.Things.{class_blocks}
use Rattle.ec_world.specs.declared.key.Key.TheVariants.{Object}
use Rattle.ec_generate.specs.declared.table.OperationTable.{OperationTable}
use Rattle.ec_generate.specs.declared.table.StopEntry.{StopEntry}
use Rattle.ec_cluster.specs.SystemSteps.{ByClass}
use Rattle.ec_things.specs.Store.{Store}
use Rattle.ec_world.specs.Objects.{class_at, element_kind}
use Rattle.ec_world.specs.Values.{default_of, new_fields}
use Rattle.ec_world.specs.declared.class.ClassNo.{ClassNo}
use Rattle.ec_world.specs.declared.class.ClassNo.TheVariants.{Vector}
use Rattle.ec_world.specs.declared.doing.Doing.{Doing}
use Rattle.ec_world.specs.declared.doing.Doing.TheVariants.{Passes, Prints, Defines, Stores, Makes, MakesVector, Invokes, Returns}
use Rattle.ec_world.specs.declared.doing.Doing.TheVariants.{Moves, Unfixes, Enters, Waits, Signals, Finishes, Breaks}
use Rattle.ec_world.specs.declared.node.Kind.{Kind}
use Rattle.ec_world.specs.declared.stop.Effect.{Effect}
use Rattle.ec_world.specs.declared.stop.Effect.TheVariants.{GoesOn, Calls, Leaves, Blocks, Ends, Fails}
use Rattle.ec_world.specs.declared.stop.Who.{Who}
use Rattle.ec_world.specs.declared.value.Value.{Value}

-- ---- the second step: who takes what an effect gives, and what begins

-- An activation rests at an entry of its stop table, and what waits there is the variable that takes what the stop gives.
pub record CanTakeIt (p : Parts) (a : CodeActivation) : Type 0 where
  pub entry : StopEntry
  pub rests : RestsAt p a entry
  pub waits : a.into ≡ taker_of entry.result

-- so does the activation on top, where an effect comes to it
abbrev pub TopTakes : Parts → CodeActivation → Effect → Type 0
TopTakes p top (GoesOn given) = CanTakeIt p top
TopTakes p top (Calls op own args) = CanTakeIt p top
TopTakes p top (Leaves given) = Unit {0}
TopTakes p top (Blocks queue own) = CanTakeIt p top
TopTakes p top Ends = Unit {0}
TopTakes p top (Fails why line) = Unit {0}

-- there is an activation on top of these, and it does so
pub record OneTakes (p : Parts) (below : List CodeActivation) : Type 0 where
  pub activation : CodeActivation
  pub is : top_of below ≡ Some activation
  pub takes : CanTakeIt p activation

-- so it is where the activation above leaves
abbrev pub BelowTakes : Parts → List CodeActivation → Effect → Type 0
BelowTakes p below (GoesOn given) = Unit {0}
BelowTakes p below (Calls op own args) = Unit {0}
BelowTakes p below (Leaves given) = OneTakes p below
BelowTakes p below (Blocks queue own) = Unit {0}
BelowTakes p below Ends = Unit {0}
BelowTakes p below (Fails why line) = Unit {0}

-- on each kind an operation has a table with its entry
abbrev pub HasEntries : Cluster → ℕ → Type 0
HasEntries c operation =
    (kind : Kind) → (table : OperationTable) × (slice_get (tables_on c kind) operation ≡ Some table) × HasEntry table

-- An activation of an operation can begin at a depth of a process: none is there yet, and the operation has its entries.
pub record IsNewThere (c : Cluster) (p depth operation : ℕ) : Type 0 where
  pub new : NoFrame c p depth
  pub entry : HasEntries c operation

-- so one can above the top, where an operation is called
abbrev pub CallIsNew : Cluster → ℕ → List CodeActivation → Effect → Type 0
CallIsNew c p below (GoesOn given) = Unit {0}
CallIsNew c p below (Calls op own args) = IsNewThere c p (suc (length below)) op
CallIsNew c p below (Leaves given) = Unit {0}
CallIsNew c p below (Blocks queue own) = Unit {0}
CallIsNew c p below Ends = Unit {0}
CallIsNew c p below (Fails why line) = Unit {0}

-- the object that is called has a node
abbrev pub CalledHasNode : Cluster → Effect → Type 0
CalledHasNode c (GoesOn given) = Unit {0}
CalledHasNode c (Calls op own args) = HasNode c own
CalledHasNode c (Leaves given) = Unit {0}
CalledHasNode c (Blocks queue own) = Unit {0}
CalledHasNode c Ends = Unit {0}
CalledHasNode c (Fails why line) = Unit {0}

-- ---- the first step: what a doing names

-- each node has a constant of this number
abbrev pub HasConstant : Cluster → ℕ → Type 0
HasConstant c i = (k : ℕ) (s : Store) → stores c k ≡ Some s → IsSome (s.global i)

-- The maker is there, the fields of an object of a class have words in its blocks, and no node has an object of the next number yet.
pub record IsMakable (c : Cluster) (maker : ℕ) (class : ClassNo) (fields : List Value) : Type 0 where
  pub maker_is : HasObject c maker
  pub small : length fields < 2 ^ 32
  pub few : length fields ≤ 128 * class_blocks class (length fields)
  pub new : (k : ℕ) (s : Store) → stores c k ≡ Some s → s.row (Object (suc (made_count c.whereabouts))) ≡ None

-- What a doing names is there: objects with their fields, constants and classes; and the own object of who acts, where it is asked of.
abbrev pub HasNamed : Cluster → Who → Doing → Type 0
HasNamed c who (Passes given) = Unit {0}
HasNamed c who (Prints text) = Unit {0}
HasNamed c who (Defines index v) = HasConstant c index
HasNamed c who (Stores oid i v) = HasField c oid i
HasNamed c who (Makes class given) =
    ByClass (class_at c.parts.classes class) (λ k. IsMakable c who.own class (new_fields given k.fields))
HasNamed c who (MakesVector of n) = IsMakable c who.own (Vector of) (replicate n (default_of (element_kind of)))
HasNamed c who (Invokes op own args) = HasObject c own
HasNamed c who (Returns given leaves section) = HasObject c who.own
HasNamed c who (Moves members to fixes) = Unit {0}
HasNamed c who (Unfixes x) = HasObject c x
HasNamed c who Enters = HasObject c who.own
HasNamed c who (Waits condition) = HasObject c who.own
HasNamed c who (Signals condition) = HasObject c who.own
HasNamed c who Finishes = Unit {0}
HasNamed c who (Breaks why line) = Unit {0}
