-- What an action that is pending takes from the frame of its activation.
use Rattle.std.specs.Prelude.{◌≡◌, ℕ, true, List, Some, slice_get}
use Rattle.ec_activations.specs.Frames.{value_in}
use Rattle.ec_code.specs.Typing.{Declared, kind_of}
use Rattle.ec_code.specs.declared.activation.CodeActivation.{CodeActivation}
use Rattle.ec_code.specs.declared.code.Live.{Live}
use Rattle.ec_code.specs.declared.code.Parts.{Parts}
use Rattle.ec_machine_code.specs.declared.homes.Home.{Home}
use Rattle.ec_node_frames.specs.Finishing.{RestsHere}
use Rattle.ec_objects.specs.Kinds.{IsOfKind}
use Rattle.ec_generate.specs.declared.table.OperationTable.{OperationTable}
use Rattle.ec_generate.specs.declared.table.StopEntry.{StopEntry}
use Rattle.ec_things.specs.Store.{Store}
use Rattle.ec_world.specs.declared.node.Kind.{Kind}

-- A node shows an activation whose action is pending at a stop, and each of its operands is of the kind of its type.
pub record ActsHere (s : Store) (table : OperationTable) (e : StopEntry) (process depth : ℕ) (d : Declared) (p : Parts)
    (homes : Kind → List (List Home)) (tables : List OperationTable) (a : CodeActivation) : Type 0 where
  pub here : RestsHere s table e process depth d p homes tables a
  pub pending : a.pending ≡ true
  pub kinds : (i : ℕ) (l : Live) → slice_get e.operands i ≡ Some l → IsOfKind (kind_of l.of) (value_in p a l.variable)

-- there is such an activation
pub record HasOperands (s : Store) (table : OperationTable) (e : StopEntry) (process depth : ℕ) : Type 0 where
  pub declared : Declared
  pub parts : Parts
  pub homes : Kind → List (List Home)
  pub tables : List OperationTable
  pub activation : CodeActivation
  pub acts : ActsHere s table e process depth declared parts homes tables activation
