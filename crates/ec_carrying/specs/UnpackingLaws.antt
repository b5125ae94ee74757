-- What holds of all that is unpacked.
use Rattle.std.specs.Prelude.{◌≡◌, ℕ, List, Some}
use Rattle.ec_activations.specs.Frames.{frame_thing}
use Rattle.ec_node_frames.specs.Carried.{IsCarried}
use Rattle.ec_carrying.specs.Carrying.{Carried, IsCarriedIn}
use Rattle.ec_carrying.specs.Moves.{SetOff}
use Rattle.ec_carrying.specs.Steps.{ShowsStaying}
use Rattle.ec_cluster.specs.Cluster.{CodeWorld, Shows, stores}
use Rattle.ec_cluster.specs.declared.cluster.Cluster.{Cluster}
use Rattle.ec_code.specs.Typing.{Declared}
use Rattle.ec_code.specs.declared.activation.CodeActivation.{CodeActivation}
use Rattle.ec_code.specs.declared.code.Parts.{Parts}
use Rattle.ec_machine_code.specs.declared.homes.Home.{Home}
use Rattle.ec_parcels.specs.Activations.{IsStopOf, activation_part_of, frame_in}
use Rattle.ec_parcels.specs.Classes.{ClassTable, IsClassTable}
use Rattle.ec_node_frames.specs.Frames.{HasTables}
use Rattle.ec_world.specs.declared.key.Key.{Key}
use Rattle.ec_parcels.specs.Owners.{among, keys_of}
use Rattle.ec_generate.specs.declared.table.OperationTable.{OperationTable}
use Rattle.ec_generate.specs.declared.table.StopEntry.{StopEntry}
use Rattle.ec_things.specs.Store.{Store}
use Rattle.ec_things.specs.Things.{Shown}
use Rattle.ec_wire.specs.declared.parcel.ActivationPart.{ActivationPart}
use Rattle.ec_wire.specs.declared.parcel.Contents.{Contents}
use Rattle.ec_world.specs.declared.node.Kind.{Kind}
use Rattle.ec_carrying.specs.Holding.{HoldsThings}
use Rattle.ec_carrying.specs.Unpacking.{HasRoomHere, UnpackedAt}

-- A store that shows what the part of an activation spells shows the activation.
abbrev pub PartsShowActivations : Type 0
PartsShowActivations =
    (d : Declared) (p : Parts) (homes : Kind → List (List Home)) (tables : List OperationTable) (table : OperationTable)
    (a : CodeActivation) (e found : StopEntry) (part : ActivationPart) (s : Store) (process depth : ℕ) (key : Key) →
    HasTables d p s.kind homes tables →
    IsCarried p a e →
    part ≡ activation_part_of process depth p a e →
    IsStopOf tables part table found →
    Shown s key (frame_in table found part) →
    Shown s key (frame_thing p homes process depth a)

-- Where nodes show a world but for what some contents hold of it, and the contents are unpacked at the node that is the place of all of it,
-- the nodes show the world.
abbrev pub WhatIsUnpackedIsShown : Type 0
WhatIsUnpackedIsShown =
    (d : Declared) (table : ClassTable) (c c' : Cluster) (w : CodeWorld) (k : ℕ) (x : Contents) →
    HoldsThings d table c w k x →
    ShowsStaying c (among (keys_of x)) w →
    UnpackedAt table c c' k x →
    Shows c' w

-- A move between nodes is composed: where what is in a parcel has set off, and the parcel is unpacked at the node to which it goes, it has
-- been carried there.
abbrev pub MovesAreComposed : Type 0
MovesAreComposed =
    (table : ClassTable) (c c1 c2 : Cluster) (from to : ℕ) (bytes : List ℕ) (d : Declared) (w : CodeWorld) (members : List ℕ)
    (x : Contents) →
    IsClassTable table →
    IsCarriedIn table c from to bytes d w members x →
    SetOff c c1 from to x →
    UnpackedAt table c1 c2 to x →
    Carried c c2 w x to

-- Where it has set off, the node to which it goes has room for it, and none of its owners.
abbrev pub WhatSetsOffHasRoom : Type 0
WhatSetsOffHasRoom =
    (table : ClassTable) (c c1 : Cluster) (from to : ℕ) (bytes : List ℕ) (d : Declared) (w : CodeWorld) (members : List ℕ) (x : Contents)
    (s : Store) →
    IsClassTable table →
    IsCarriedIn table c from to bytes d w members x →
    SetOff c c1 from to x →
    stores c1 to ≡ Some s →
    HasRoomHere table s x
