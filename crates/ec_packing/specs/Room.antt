-- What parcels want together at the node to which they come.
use Rattle.std.specs.Prelude.{IsSome, List}
use Rattle.ec_parcels.specs.Classes.{ClassTable, class_of}
use Rattle.ec_wire.specs.declared.parcel.Contents.{Contents}
use Rattle.ec_wire.specs.declared.parcel.ObjectPart.{ObjectPart}
use Rattle.ec_world.specs.Group.{Has}

-- the class number of each object of a parcel is that of a class
abbrev pub IsOfClasses : ClassTable → Contents → Type 0
IsOfClasses table x = (part : ObjectPart) → Has x.objects part → IsSome (class_of table part.class)

-- so it is with each parcel
abbrev pub AreOfClasses : ClassTable → List Contents → Type 0
AreOfClasses table parcels = (x : Contents) → Has parcels x → IsOfClasses table x
