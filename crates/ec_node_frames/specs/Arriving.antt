-- What an activation is at the node to which it comes.
use Rattle.std.specs.Prelude.{◌≡◌, ℕ, List, Some, slice_get}
use Rattle.ec_activations.specs.Frames.{frame_thing}
use Rattle.ec_node_frames.specs.Carried.{IsCarried, values_carried}
use Rattle.ec_code.specs.Typing.{Declared}
use Rattle.ec_code.specs.declared.activation.CodeActivation.{CodeActivation}
use Rattle.ec_code.specs.declared.code.Parts.{Parts}
use Rattle.ec_machine_code.specs.declared.homes.Home.{Home}
use Rattle.ec_node_frames.specs.Frames.{AreHeadings, HasTables}
use Rattle.ec_node_frames.specs.declared.frames.Headings.{Headings}
use Rattle.ec_world.specs.declared.key.Key.TheVariants.{Frame}
use Rattle.ec_generate.specs.declared.table.OperationTable.{OperationTable}
use Rattle.ec_generate.specs.declared.table.StopEntry.{StopEntry}
use Rattle.ec_things.specs.Store.{Store}
use Rattle.ec_things.specs.Things.{Puts}
use Rattle.ec_world.specs.declared.node.Kind.{Kind}
use Rattle.ec_world.specs.declared.value.Value.{Value}

-- Whatever the program is of which this is the operation's table for the kind of the node, and whatever activation of it has these headings
-- and these values, it is there, and nothing else has changed.
abbrev pub Arrives : Store → Store → OperationTable → StopEntry → ℕ → ℕ → Headings → List Value → Type 0
Arrives s s' table e process depth h values =
    (d : Declared) (p : Parts) (homes : Kind → List (List Home)) (tables : List OperationTable) (a : CodeActivation) →
    HasTables d p s.kind homes tables →
    slice_get tables h.operation ≡ Some table →
    IsCarried p a e →
    AreHeadings p a h →
    values ≡ values_carried p a e h.pending →
    Puts s s' (Frame process depth) (Some (frame_thing p homes process depth a))
