-- What goes with an activation to another node: which of its variables, and their values.
use Rattle.std.specs.Prelude.{◌≡◌, ℕ, Bool, false, if◌then◌else◌, List, [], ◌++◌, map, Some, slice_get}
use Rattle.ec_activations.specs.Frames.{held_in, value_in}
use Rattle.ec_code.specs.Typing.{Declared, kind_of}
use Rattle.ec_code.specs.declared.activation.CodeActivation.{CodeActivation}
use Rattle.ec_code.specs.declared.code.Live.{Live}
use Rattle.ec_code.specs.declared.code.Parts.{Parts}
use Rattle.ec_machine_code.specs.declared.homes.Home.{Home}
use Rattle.ec_node_frames.specs.Finishing.{RestsHere}
use Rattle.ec_node_frames.specs.Frames.{RestsAt}
use Rattle.ec_objects.specs.Kinds.{IsOfKind}
use Rattle.ec_generate.specs.declared.table.OperationTable.{OperationTable}
use Rattle.ec_generate.specs.declared.table.StopEntry.{StopEntry}
use Rattle.ec_things.specs.Store.{Store}
use Rattle.ec_world.specs.declared.node.Kind.{Kind}
use Rattle.ec_world.specs.declared.value.Value.{Value}

-- the variables whose values go: those of the operands while the action is pending, and those that are live behind the stop
abbrev pub carried : StopEntry → Bool → List Live
carried e pending = (if pending then e.operands else []) ++ e.live

-- their values
abbrev pub values_carried : Parts → CodeActivation → StopEntry → Bool → List Value
values_carried p a e pending = map (λ h. h.value) (held_in p a (carried e pending))

-- An activation rests at a stop. Where its action is done and the stop gives something, it waits for this: so it has no result yet.
pub record IsCarried (p : Parts) (a : CodeActivation) (e : StopEntry) : Type 0 where
  pub rests : RestsAt p a e
  pub waits : (l : Live) → a.pending ≡ false → e.result ≡ Some l → a.into ≡ Some l.variable

-- A node shows an activation that can go, and each of its values is of the kind of its variable's type.
pub record CarriedHere (s : Store) (table : OperationTable) (e : StopEntry) (process depth : ℕ) (pending : Bool) (d : Declared) (p : Parts)
    (homes : Kind → List (List Home)) (tables : List OperationTable) (a : CodeActivation) : Type 0 where
  pub here : RestsHere s table e process depth d p homes tables a
  pub goes : IsCarried p a e
  pub when : a.pending ≡ pending
  pub kinds : (i : ℕ) (l : Live) → slice_get (carried e pending) i ≡ Some l → IsOfKind (kind_of l.of) (value_in p a l.variable)

-- there is such an activation
pub record HasCarried (s : Store) (table : OperationTable) (e : StopEntry) (process depth : ℕ) (pending : Bool) : Type 0 where
  pub declared : Declared
  pub parts : Parts
  pub homes : Kind → List (List Home)
  pub tables : List OperationTable
  pub activation : CodeActivation
  pub goes : CarriedHere s table e process depth pending declared parts homes tables activation
