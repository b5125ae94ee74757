-- What a new activation holds at its entry: the reference to its own object, and a value for each variable that is there.
use Rattle.std.specs.Prelude.{◌≡◌, ℕ, List, [], ◌∷◌, ◌++◌, map, Option, Some, None, slice_get}
use Rattle.ec_activations.specs.Frames.{frame_thing, or_nil}
use Rattle.ec_code.specs.Activations.{begun}
use Rattle.ec_code.specs.Typing.{Declared}
use Rattle.ec_code.specs.declared.code.Live.{Live}
use Rattle.ec_code.specs.declared.code.Parts.{Parts}
use Rattle.ec_code.specs.declared.code.Variable.{Variable}
use Rattle.ec_code.specs.declared.code.Variable.TheVariants.{Named, Temporary}
use Rattle.ec_machine_code.specs.declared.homes.Home.{Home}
use Rattle.ec_node_frames.specs.Frames.{HasTables}
use Rattle.ec_world.specs.declared.key.Key.TheVariants.{Frame}
use Rattle.ec_generate.specs.declared.table.OperationTable.{OperationTable}
use Rattle.ec_generate.specs.declared.table.StopEntry.{StopEntry}
use Rattle.ec_things.specs.Store.{Store}
use Rattle.ec_things.specs.Things.{Puts}
use Rattle.ec_world.specs.declared.node.Kind.{Kind}
use Rattle.ec_world.specs.declared.value.Value.{Value}
use Rattle.ec_world.specs.declared.value.Value.TheVariants.{Nil, Ref}

-- a table has the entry of its operation: stop 0, at place 0 of the code
pub record HasEntry (table : OperationTable) : Type 0 where
  pub entry : StopEntry
  pub is : slice_get table.stops 0 ≡ Some entry
  pub first : entry.place ≡ 0

abbrev pub first_held_in : Option StopEntry → List Live
first_held_in None = []
first_held_in (Some e) = e.operands ++ e.live

-- the variables that hold something at the entry: operands, and what is live behind it
abbrev pub first_held : OperationTable → List Live
first_held table = first_held_in (slice_get table.stops 0)

-- a parameter holds its argument, and all else nil
abbrev pub first_value : List Value → Variable → Value
first_value arguments (Named n) = or_nil (slice_get arguments n)
first_value arguments (Temporary d) = Nil

-- the values at the entry, in the order of a frame
abbrev pub first_values : OperationTable → ℕ → List Value → List Value
first_values table own arguments = Ref own ∷ map (λ l. first_value arguments l.variable) (first_held table)

-- Whatever the program is of which this is the operation's table, a new activation of it is there, and nothing else has changed.
abbrev pub BeginsFrame : Store → Store → OperationTable → ℕ → ℕ → ℕ → ℕ → List Value → Type 0
BeginsFrame s s' table process depth operation own arguments =
    (d : Declared) (p : Parts) (homes : Kind → List (List Home)) (tables : List OperationTable) →
    HasTables d p s.kind homes tables → slice_get tables operation ≡ Some table →
    Puts s s' (Frame process depth) (Some (frame_thing p homes process depth (begun operation own arguments)))
