-- Objects by their numbers, and classes.
use Rattle.std.specs.Prelude.{ℕ, zero, suc, ◌-◌, ◌==◌, ◌&&◌, Bool, true, false, if◌then◌else◌, List, [], ◌∷◌, Option, Some, None}
use Rattle.std.specs.Prelude.{slice_get, slice_set}
use Rattle.ec_world.specs.declared.value.Value.{Value}
use Rattle.ec_world.specs.declared.value.ValueType.{ValueType}
use Rattle.ec_world.specs.declared.value.ValueType.TheVariants as kind
use Rattle.ec_world.specs.declared.class.ClassNo.{ClassNo}
use Rattle.ec_world.specs.declared.class.ClassNo.TheVariants.{Node, Program, Made, Vector}
use Rattle.ec_world.specs.declared.class.ClassRec.{ClassRec}
use Rattle.ec_world.specs.declared.class.OperationRec.{OperationRec}
use Rattle.ec_world.specs.declared.class.PlainType.{PlainType}
use Rattle.ec_world.specs.declared.class.PlainType.TheVariants as plain
use Rattle.ec_world.specs.declared.class.VectorType.{VectorType}
use Rattle.ec_world.specs.declared.class.ViewedAs.{ViewedAs}
use Rattle.ec_world.specs.declared.class.ViewedAs.TheVariants as seen
use Rattle.ec_world.specs.declared.object.ObjectRec.{ObjectRec}

-- ---- objects

-- the object of a number; numbers begin at 1
abbrev pub object_at : List ObjectRec → ℕ → Option ObjectRec
object_at objects zero = None
object_at objects (suc i) = slice_get objects i

abbrev pub changed_if : List ObjectRec → ℕ → (ObjectRec → ObjectRec) → Option ObjectRec → List ObjectRec
changed_if objects oid change None = objects
changed_if objects oid change (Some o) = slice_set objects (oid - 1) (change o)

-- one object changed, where it is there
abbrev pub changed_object : List ObjectRec → ℕ → (ObjectRec → ObjectRec) → List ObjectRec
changed_object objects oid change = changed_if objects oid change (object_at objects oid)

abbrev pub fixed_if : Option ObjectRec → Bool
fixed_if None = false
fixed_if (Some o) = o.fixed

abbrev pub is_node_class : ClassNo → Bool
is_node_class Node = true
is_node_class Program = false
is_node_class (Made k) = false
is_node_class (Vector of) = false

-- ---- classes

-- the class or object constructor of a number
abbrev pub class_at : List ClassRec → ClassNo → Option ClassRec
class_at classes (Made k) = slice_get classes k
class_at classes Program = None
class_at classes Node = None
class_at classes (Vector of) = None

-- A name means the first operation that has it.
abbrev pub operation_named : List OperationRec → ℕ → Option ℕ
operation_named [] name = None
operation_named (o ∷ os) name = if o.name == name then Some o.operation else operation_named os name

abbrev pub operation_in : Option ClassRec → ℕ → Option ℕ
operation_in None name = None
operation_in (Some k) name = operation_named k.operations name

-- ---- vectors

abbrev pub plain_kind : PlainType → ValueType
plain_kind plain.Integer = kind.Integer
plain_kind plain.Boolean = kind.Boolean
plain_kind plain.Bytes = kind.Bytes
plain_kind plain.Any = kind.Reference
plain_kind plain.Node = kind.Reference
plain_kind (plain.Named n) = kind.Reference

abbrev pub kind_from : ℕ → PlainType → ValueType
kind_from zero of = plain_kind of
kind_from (suc inner) of = kind.Reference

-- what the elements of a vector are
abbrev pub element_kind : VectorType → ValueType
element_kind v = kind_from v.inner v.of

abbrev pub elements_of_class : ClassNo → List Value → Option (List Value)
elements_of_class (Vector of) values = Some values
elements_of_class Node values = None
elements_of_class Program values = None
elements_of_class (Made k) values = None

-- the elements of an object that is a vector
abbrev pub elements_if : Option ObjectRec → Option (List Value)
elements_if None = None
elements_if (Some o) = elements_of_class o.class o.fields

-- ---- conformity of the class of an object to the type as which it is viewed

abbrev pub is_same_plain : PlainType → PlainType → Bool
is_same_plain plain.Integer plain.Integer = true
is_same_plain plain.Boolean plain.Boolean = true
is_same_plain plain.Bytes plain.Bytes = true
is_same_plain plain.Any plain.Any = true
is_same_plain plain.Node plain.Node = true
is_same_plain (plain.Named a) (plain.Named b) = a == b
is_same_plain _ _ = false

abbrev pub is_same_vector : VectorType → VectorType → Bool
is_same_vector a b = a.inner == b.inner && is_same_plain a.of b.of

abbrev pub true_at : List Bool → ℕ → Bool
true_at [] n = false
true_at (b ∷ bs) zero = b
true_at (b ∷ bs) (suc n) = true_at bs n

abbrev pub class_conforms : Option ClassRec → ℕ → Bool
class_conforms None n = false
class_conforms (Some k) n = true_at k.conforms n

-- Any object conforms to Any, and to a named type without operations. Else a node conforms to Node, a vector to its own type,
-- and an object of a class to the named types to which its class does.
abbrev pub conforms : List ClassRec → ClassNo → ViewedAs → Bool
conforms classes class seen.Any = true
conforms classes class seen.Node = is_node_class class
conforms classes (Vector of) (seen.Vector to) = is_same_vector of to
conforms classes Node (seen.Vector to) = false
conforms classes Program (seen.Vector to) = false
conforms classes (Made k) (seen.Vector to) = false
conforms classes (Made k) (seen.Named n is_bare) = class_conforms (slice_get classes k) n
conforms classes (Vector of) (seen.Named n is_bare) = is_bare
conforms classes Node (seen.Named n is_bare) = is_bare
conforms classes Program (seen.Named n is_bare) = is_bare
