-- Native code from a stop to the next, at a node that shows the activation (Steensgaard and Jul 1995: bus stops): what is asked of the
-- node, and what it then shows.
use Rattle.std.specs.Prelude.{◌≡◌, ◌≢◌, ℕ, suc, ◌+◌, ◌-◌, ◌^◌, ◌≤◌, true, false, min, drop, length, List, None, Some, slice_get}
use Rattle.ec_activations.specs.Frames.{Numbered, frame_thing, stop_of}
use Rattle.ec_code.specs.Activations.{Arrived, code_silent, machine_behind, operation_at, walk}
use Rattle.ec_code.specs.Fine.{Fine, Has, live_at}
use Rattle.ec_code.specs.Steps.{variable_at}
use Rattle.ec_code.specs.Typing.{Declared}
use Rattle.ec_code.specs.declared.activation.CodeActivation.{CodeActivation}
use Rattle.ec_code.specs.declared.code.Operation.{Operation}
use Rattle.ec_code.specs.declared.code.Parts.{Parts}
use Rattle.ec_code.specs.declared.code.StopRow.{StopRow}
use Rattle.ec_code.specs.declared.code.Variable.{Variable}
use Rattle.ec_types.specs.declared.conform.static_type.StaticType.{StaticType}
use Rattle.ec_machine_code.specs.Faithful.{Faithful}
use Rattle.ec_machine_code.specs.Frames.{slots}
use Rattle.ec_machine_code.specs.Machine.{MachineMeaning}
use Rattle.ec_machine_code.specs.Standing.{FitsWord, HasWhatIsSet}
use Rattle.ec_machine_code.specs.Stops.{address_of, stop_at, words_of}
use Rattle.ec_machine_code.specs.declared.code.Code.{Code}
use Rattle.ec_machine_code.specs.declared.homes.Home.{Home}
use Rattle.ec_code.specs.Live.{stays}
use Rattle.ec_machine_code.specs.Speaks.{words_end}
use Rattle.ec_world.specs.Things.{blocks_of}
use Rattle.ec_world.specs.declared.key.Key.{Key}
use Rattle.ec_world.specs.declared.key.Key.TheVariants.{Frame, Object}
use Rattle.ec_generate.specs.Addresses.{address_in}
use Rattle.ec_generate.specs.Tables.{AreTablesOf, all_homes}
use Rattle.ec_generate.specs.declared.table.StopTable.{StopTable}
use Rattle.ec_things.specs.Shows.{GlobalStands}
use Rattle.ec_things.specs.Store.{KeptRow, Store, Tidy}
use Rattle.ec_things.specs.Things.{Shown, object_thing}
use Rattle.ec_world.specs.Objects.{object_at}
use Rattle.ec_world.specs.declared.common.Common.{Common}
use Rattle.ec_world.specs.declared.node.Kind.{Kind}
use Rattle.ec_world.specs.declared.object.ObjectRec.{ObjectRec}
use Rattle.ec_world.specs.declared.value.Value.{Value}

-- ---- the activation

-- An activation at a stop whose action is done: nothing is to come any more, all that is live behind the stop has its value, and silent
-- steps arrive at another stop.
pub record CanStep (p : Parts) (c : Common) (a : CodeActivation) : Type 0 where
  pub operation : Operation
  pub is_operation : operation_at p a.operation ≡ Some operation
  pub stop : Numbered
  pub is_stop : stop_of p a ≡ Some stop
  pub row : StopRow
  pub is_row : stop_at operation.code a.at ≡ Some row
  pub stays_on : stays row.stop ≡ true
  pub done : a.pending ≡ false
  pub taken : a.into ≡ None
  pub has : HasWhatIsSet operation a.own (machine_behind p c a)
  pub live :
      (x : Variable) (t : StaticType) → Has (live_at operation.code (suc a.at)) x t →
      (v : Value) × (variable_at (machine_behind p c a) x ≡ Some v) × FitsWord v
  pub common : Common
  pub reached : Arrived
  pub walks : walk p.literals a.own (suc a.at) (drop (suc a.at) operation.code) 0 (machine_behind p c a) ≡ (common, Some reached)

-- ---- the node

-- A node shows the activation, its own object, which has one block, the constants, and the literals at their places.
pub record ShowsAll (p : Parts) (homes : Kind → List (List Home)) (c : Common) (a : CodeActivation) (o : ObjectRec) (s : Store)
    (process depth : ℕ) : Type 0 where
  pub frame : Shown s (Frame process depth) (frame_thing p homes process depth a)
  pub object_is : object_at c.objects a.own ≡ Some o
  pub object : Shown s (Object a.own) (object_thing a.own o)
  pub one_block : blocks_of o ≡ 1
  pub fields : (i : ℕ) (v : Value) → slice_get o.fields i ≡ Some v → FitsWord v
  pub constants : (i : ℕ) (v : Value) → slice_get c.globals i ≡ Some v → FitsWord v × GlobalStands s i v
  pub literals : (i : ℕ) (text : List ℕ) → slice_get p.literals i ≡ Some text → s.text i ≡ Some text

-- the own object, as silent steps have left it
pub record OwnShown (s : Store) (own : ℕ) (c : Common) : Type 0 where
  pub object : ObjectRec
  pub is : object_at c.objects own ≡ Some object
  pub shown : Shown s (Object own) (object_thing own object)

-- After k instructions the activation and its own object are as silent steps have left them, and all else is as it was.
pub record Leg (code : Code) (p : Parts) (homes : Kind → List (List Home)) (c : Common) (a : CodeActivation) (s s' : Store)
    (process depth k : ℕ) : Type 0 where
  pub frame : Shown s' (Frame process depth) (frame_thing p homes process depth (code_silent p c a).1)
  pub object : OwnShown s' a.own (code_silent p c a).0
  pub others : (key : Key) → key ≢ Frame process depth → key ≢ Object a.own → KeptRow s s' key
  pub kind : s'.kind ≡ s.kind
  pub local : (i : ℕ) → s'.local i ≡ s.local i
  pub text : (i : ℕ) → s'.text i ≡ s.text i
  pub global : (i : ℕ) → s'.global i ≡ s.global i
  pub room : s'.room ≡ s.room
  pub free : s'.free ≡ s.free
  pub text_room : s'.text_room ≡ s.text_room
  pub text_free : s'.text_free ≡ s.text_free
  pub tidy : Tidy s'
  pub count : s'.count ≡ min (s.count + k) (2 ^ 64 - 1)
  pub few : k ≤ suc (words_of code a.operation)

-- ---- the code

module _ {S : Type 0} (M : MachineMeaning S) (code : Code) (table : StopTable) where
  -- the code and the stop table of a well typed program, on the kind of a machine
  pub record IsCodeOf (d : Declared) (p : Parts) (homes : Kind → List (List Home)) : Type 0 where
    pub fine : Fine d p
    pub faithful : Faithful M p code (all_homes table.operations)
    pub tables : AreTablesOf M.homes slots p table.operations
    pub homes_are : homes M.kind ≡ all_homes table.operations
    pub bound : (op n : ℕ) → address_in table.addresses op n ≡ address_of code op n
    pub few : length code.words ≤ words_end

  -- The node has the machine's kind and shows an activation of the code's program that can step.
  pub record CanGoOn (s : Store) (process depth : ℕ) : Type 0 where
    pub kind : s.kind ≡ M.kind
    pub declared : Declared
    pub program : Parts
    pub homes : Kind → List (List Home)
    pub is_code : IsCodeOf declared program homes
    pub common : Common
    pub activation : CodeActivation
    pub can_step : CanStep program common activation
    pub own : ObjectRec
    pub shows : ShowsAll program homes common activation own s process depth

  -- a leg of each activation that the node shows so
  abbrev pub HasGoneOn : Store → Store → ℕ → ℕ → ℕ → Type 0
  HasGoneOn s s' process depth k =
      (d : Declared) (p : Parts) (homes : Kind → List (List Home)) (c : Common) (a : CodeActivation) (o : ObjectRec) →
      IsCodeOf d p homes →
      CanStep p c a →
      ShowsAll p homes c a o s process depth →
      Leg code p homes c a s s' process depth k
