-- What holds of each class on the wire, and of each activation that goes in a parcel.
use Rattle.std.specs.Prelude.{◌≡◌, ◌↔◌, ℕ, List, Some}
use Rattle.ec_activations.specs.Frames.{frame_thing}
use Rattle.ec_node_frames.specs.Arriving.{Arrives}
use Rattle.ec_node_frames.specs.Carried.{IsCarried}
use Rattle.ec_code.specs.Typing.{Declared}
use Rattle.ec_code.specs.declared.activation.CodeActivation.{CodeActivation}
use Rattle.ec_code.specs.declared.code.Parts.{Parts}
use Rattle.ec_machine_code.specs.declared.homes.Home.{Home}
use Rattle.ec_parcels.specs.Activations.{HasStop, IsStopOf, activation_part_of, headings_in}
use Rattle.ec_parcels.specs.Classes.{ClassTable, IsClassTable, class_of, number_of}
use Rattle.ec_node_frames.specs.Frames.{HasTables}
use Rattle.ec_world.specs.declared.key.Key.TheVariants.{Frame}
use Rattle.ec_generate.specs.declared.table.OperationTable.{OperationTable}
use Rattle.ec_generate.specs.declared.table.StopEntry.{StopEntry}
use Rattle.ec_things.specs.Store.{Store}
use Rattle.ec_things.specs.Things.{Puts}
use Rattle.ec_wire.specs.declared.parcel.ActivationPart.{ActivationPart}
use Rattle.ec_world.specs.declared.class.ClassNo.{ClassNo}
use Rattle.ec_world.specs.declared.node.Kind.{Kind}

-- The number of a class is that of no other class, and a class has no other number.
abbrev pub NumbersAreOfOneClass : Type 0
NumbersAreOfOneClass = (t : ClassTable) (class : ClassNo) (number : ℕ) → IsClassTable t →
    (number_of t class ≡ Some number) ↔ (class_of t number ≡ Some class)

-- Where an activation rests at a stop from which it can go, its part has this stop by the tables of the program for any kind, with a value
-- for each variable whose value goes.
abbrev pub EachPartHasItsStop : Type 0
EachPartHasItsStop =
    (d : Declared) (p : Parts) (kind : Kind) (homes : Kind → List (List Home)) (tables : List OperationTable) (a : CodeActivation)
    (e : StopEntry) (process depth : ℕ) →
    HasTables d p kind homes tables →
    IsCarried p a e →
    HasStop tables (activation_part_of process depth p a e)

-- Where its part then comes to a node of this kind, by whatever stop the tables have for it, the activation itself is there, and nothing
-- else has changed.
abbrev pub ActivationsComeWhole : Type 0
ActivationsComeWhole =
    (d : Declared) (p : Parts) (homes : Kind → List (List Home)) (tables : List OperationTable) (table : OperationTable)
    (a : CodeActivation) (e found : StopEntry) (part : ActivationPart) (s s' : Store) (process depth : ℕ) →
    HasTables d p s.kind homes tables →
    IsCarried p a e →
    part ≡ activation_part_of process depth p a e →
    IsStopOf tables part table found →
    Arrives s s' table found part.process part.depth (headings_in part) part.values →
    Puts s s' (Frame process depth) (Some (frame_thing p homes process depth a))
