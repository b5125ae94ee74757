-- What holds of each activation that goes to another node.
use Rattle.std.specs.Prelude.{◌≡◌, List, Some, slice_get}
use Rattle.ec_code.specs.Typing.{Declared}
use Rattle.ec_code.specs.declared.activation.CodeActivation.{CodeActivation}
use Rattle.ec_code.specs.declared.code.Parts.{Parts}
use Rattle.ec_machine_code.specs.declared.homes.Home.{Home}
use Rattle.ec_node_frames.specs.Frames.{AreHeadings, HasTables, RestsAt}
use Rattle.ec_node_frames.specs.declared.frames.Headings.{Headings}
use Rattle.ec_generate.specs.declared.table.OperationTable.{OperationTable}
use Rattle.ec_generate.specs.declared.table.StopEntry.{StopEntry}
use Rattle.ec_world.specs.declared.node.Kind.{Kind}

-- The stop at which an activation rests stands in the table of its operation, on any kind, at the number that its headings say.
abbrev pub OneStopOnEachKind : Type 0
OneStopOnEachKind =
    (d : Declared) (p : Parts) (kind : Kind) (homes : Kind → List (List Home)) (tables : List OperationTable) (table : OperationTable)
    (a : CodeActivation) (e : StopEntry) (h : Headings) →
    HasTables d p kind homes tables →
    slice_get tables h.operation ≡ Some table →
    RestsAt p a e →
    AreHeadings p a h →
    slice_get table.stops h.stop ≡ Some e
