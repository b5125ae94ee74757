-- The owners in a parcel, and the room that it wants at the node to which it goes.
use Rattle.std.specs.Prelude.{ℕ, ◌+◌, ◌==◌, ◌&&◌, ◌||◌, Bool, false, List, [], ◌∷◌, ◌++◌, length, map, Option, Some, None}
use Rattle.std.specs.List.{flat_map, sum_by}
use Rattle.ec_parcels.specs.Classes.{ClassTable, class_of}
use Rattle.ec_world.specs.Things.{class_blocks}
use Rattle.ec_world.specs.declared.key.Key.{Key}
use Rattle.ec_world.specs.declared.key.Key.TheVariants.{Object, Frame}
use Rattle.ec_wire.specs.declared.parcel.ActivationPart.{ActivationPart}
use Rattle.ec_wire.specs.declared.parcel.Contents.{Contents}
use Rattle.ec_wire.specs.declared.parcel.ObjectPart.{ObjectPart}
use Rattle.ec_world.specs.declared.class.ClassNo.{ClassNo}
use Rattle.ec_world.specs.declared.value.Value.{Value}

-- ---- owners

abbrev pub object_keys : List ObjectPart → List Key
object_keys objects = map (λ o. Object o.number) objects

abbrev pub frame_keys : List ActivationPart → List Key
frame_keys activations = map (λ a. Frame a.process a.depth) activations

-- the owners in a parcel: objects, then activations
abbrev pub keys_of : Contents → List Key
keys_of x = object_keys x.objects ++ frame_keys x.activations

abbrev pub is_same_key : Key → Key → Bool
is_same_key (Object o) (Object u) = o == u
is_same_key (Object o) (Frame q e) = false
is_same_key (Frame p d) (Object u) = false
is_same_key (Frame p d) (Frame q e) = p == q && d == e

-- whether an owner is one of some
abbrev pub among : List Key → Key → Bool
among [] key = false
among (k ∷ ks) key = is_same_key k key || among ks key

-- ---- room

abbrev pub blocks_if : Option ClassNo → ℕ → ℕ
blocks_if None count = 0
blocks_if (Some class) count = class_blocks class count

-- the blocks of an object, by the class of its number and by how many values it has; none where no class has the number
abbrev pub object_blocks : ClassTable → ObjectPart → ℕ
object_blocks table o = blocks_if (class_of table o.class) (length o.values)

-- the blocks of a parcel: those of each object, and one of each activation
abbrev pub blocks_in : ClassTable → Contents → ℕ
blocks_in table x = sum_by (object_blocks table) x.objects + length x.activations

abbrev pub object_values : List ObjectPart → List Value
object_values objects = flat_map (λ o. o.values) objects

abbrev pub frame_values : List ActivationPart → List Value
frame_values activations = flat_map (λ a. a.values) activations

-- the values in a parcel: those of objects, then those of activations
abbrev pub values_in : Contents → List Value
values_in x = object_values x.objects ++ frame_values x.activations

-- ---- several parcels

-- the blocks of all of them
abbrev pub all_blocks : ClassTable → List Contents → ℕ
all_blocks table parcels = sum_by (blocks_in table) parcels

-- their values, one parcel after another
abbrev pub all_values : List Contents → List Value
all_values parcels = flat_map values_in parcels
