-- What an action that is done leaves in the frame of its activation.
use Rattle.std.specs.Prelude.{◌≡◌, ℕ, ◌<◌, List, Option, Some, None, slice_get}
use Rattle.ec_activations.specs.Frames.{frame_thing, taker_of}
use Rattle.ec_code.specs.Activations.{finished}
use Rattle.ec_code.specs.Typing.{Declared}
use Rattle.ec_code.specs.declared.activation.CodeActivation.{CodeActivation}
use Rattle.ec_code.specs.declared.code.Live.{Live}
use Rattle.ec_code.specs.declared.code.Parts.{Parts}
use Rattle.ec_machine_code.specs.declared.homes.Home.{Home}
use Rattle.ec_node_frames.specs.Frames.{HasTables, RestsAt}
use Rattle.ec_world.specs.declared.key.Key.TheVariants.{Frame}
use Rattle.ec_objects.specs.Values.{HasRoom, HasWord}
use Rattle.ec_generate.specs.declared.table.OperationTable.{OperationTable}
use Rattle.ec_generate.specs.declared.table.StopEntry.{StopEntry}
use Rattle.ec_stores.specs.Changes.{SameRest, WritesWord}
use Rattle.ec_things.specs.Store.{Store, Tidy}
use Rattle.ec_things.specs.Things.{Puts, Shown}
use Rattle.ec_world.specs.declared.node.Kind.{Kind}
use Rattle.ec_world.specs.declared.value.Value.{Value}
use Rattle.ec_world.specs.declared.value.Value.TheVariants.{Str}

-- A node shows an activation in a frame, by the tables of its kind, at a stop of the operation of a table.
pub record RestsHere (s : Store) (table : OperationTable) (e : StopEntry) (process depth : ℕ) (d : Declared) (p : Parts)
    (homes : Kind → List (List Home)) (tables : List OperationTable) (a : CodeActivation) : Type 0 where
  pub shown : Shown s (Frame process depth) (frame_thing p homes process depth a)
  pub rests : RestsAt p a e
  pub has : HasTables d p s.kind homes tables
  pub its : slice_get tables a.operation ≡ Some table

-- Whatever activation is shown there and waits for what the stop gives, it is the same one with its action done, and nothing else has
-- changed.
abbrev pub FinishesFrame : Store → Store → OperationTable → StopEntry → ℕ → ℕ → Option Value → Type 0
FinishesFrame s s' table e process depth given =
    (d : Declared) (p : Parts) (homes : Kind → List (List Home)) (tables : List OperationTable) (a : CodeActivation) →
    RestsHere s table e process depth d p homes tables a →
    a.into ≡ taker_of e.result →
    Puts s s' (Frame process depth) (Some (frame_thing p homes process depth (finished a given)))

-- what is given has room, where the stop has a variable for it
abbrev pub HasRoomIn : Store → Option Live → Option Value → Type 0
HasRoomIn s None given = Unit {0}
HasRoomIn s (Some l) None = Unit {0}
HasRoomIn s (Some l) (Some v) = HasRoom s v

-- the text that is given, where the stop has a variable for it
abbrev pub IsTaken : Option Live → Option Value → List ℕ → Type 0
IsTaken None given text = ⊥
IsTaken (Some l) None text = ⊥
IsTaken (Some l) (Some v) text = v ≡ Str text

-- ---- how a value is given

-- the word of a value has been made, the action is pending no more, and the word has been written at a place of the frame, where it has one
pub record Gives (s s' : Store) (process depth at : ℕ) (v : Value) : Type 0 where
  pub made : Store
  pub ended : Store
  pub word : ℕ
  pub has : HasWord s made v word
  pub ends : WritesWord made ended (Frame process depth) 4 0
  pub writes : at < 128 → WritesWord ended s' (Frame process depth) at word
  pub rest : SameRest ended s'
  pub tidy : Tidy s'
