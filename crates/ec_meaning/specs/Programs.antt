-- What a program has: its text and its core, and what a world knows of it.
use Rattle.std.specs.Prelude.{ℕ, zero, suc, ◌+◌, ◌==◌, ◌&&◌, Bool, true, false, if◌then◌else◌, List, [], ◌∷◌, ◌++◌, map, length, take}
use Rattle.std.specs.Prelude.{Option, Some, None, slice_get}
use Rattle.std.specs.List.{count_by}
use Rattle.ec_types.specs.Table.{Table, conforms}
use Rattle.ec_types.specs.Types.{named}
use Rattle.ec_core.specs.declared.Class.{Class}
use Rattle.ec_core.specs.declared.Constant.{Constant}
use Rattle.ec_core.specs.declared.Core.{Core}
use Rattle.ec_core.specs.declared.Field.{Field}
use Rattle.ec_core.specs.declared.Kind.{Kind}
use Rattle.ec_core.specs.declared.Kind.TheVariants as kind
use Rattle.ec_core.specs.declared.Operation.{Operation}
use Rattle.ec_types.specs.Names.{Text, first_named}
use Rattle.ec_meaning.specs.Types.{kind_of}
use Rattle.ec_world.specs.declared.class.ClassNo.{ClassNo}
use Rattle.ec_world.specs.declared.class.ClassNo.TheVariants.{Made}
use Rattle.ec_world.specs.declared.class.ClassRec.{ClassRec}
use Rattle.ec_world.specs.declared.class.FieldRec.{FieldRec}
use Rattle.ec_world.specs.declared.class.OperationRec.{OperationRec}
use Rattle.ec_world.specs.declared.value.ValueType.{ValueType}

-- The text, the table of its types, and its core.
pub record Source : Type 0 where
  pub text : List ℕ
  pub table : Table
  pub core : Core

-- ---- lines

abbrev pub is_line_feed : ℕ → Bool
is_line_feed b = b == 10

-- The line of a place in a text, from 1: one more than how many line feeds stand before the place.
abbrev pub line_of : List ℕ → ℕ → ℕ
line_of text at = 1 + count_by is_line_feed (take at text)

abbrev pub line : Source → ℕ → ℕ
line s at = line_of s.text at

-- ---- numbers

abbrev pub is_named : Kind → Bool
is_named kind.Named = true
is_named kind.Initial = false
is_named kind.Process = false

abbrev pub is_initial : Kind → Bool
is_initial kind.Named = false
is_initial kind.Initial = true
is_initial kind.Process = false

-- the names of the operations of bodies, in the order of the text
abbrev pub operation_names : List Operation → List Text
operation_names [] = []
operation_names (o ∷ os) = (if is_named o.kind then o.name ∷ [] else []) ++ operation_names os

abbrev pub number_or : ℕ → Option ℕ → ℕ
number_or other None = other
number_or other (Some n) = n

-- The number of a name of operations: the place of the first of these names that is the same; how many there are, where none is.
abbrev pub name_number : Source → Text → ℕ
name_number s name =
    number_or (length (operation_names s.core.operations)) (first_named (operation_names s.core.operations) name)

-- the place among the classes of the one whose type has a number
abbrev pub class_from : ℕ → List Class → ℕ → ℕ
class_from n [] number = n
class_from n (c ∷ cs) number = if c.number == number then n else class_from (suc n) cs number

abbrev pub class_number : Source → ℕ → ClassNo
class_number s number = Made (class_from 0 s.core.classes number)

-- the place among the constants with a value of the one with a number
abbrev pub constant_from : ℕ → List Constant → ℕ → ℕ
constant_from n [] number = n
constant_from n (c ∷ cs) number = if c.number == number then n else constant_from (suc n) cs number

abbrev pub constant_number : Source → ℕ → ℕ
constant_number s number = constant_from 0 s.core.constants number

-- Operation 0 is the program's own; the others follow in the order of the text.
abbrev pub operation_at : Source → ℕ → Option Operation
operation_at s zero = None
operation_at s (suc n) = slice_get s.core.operations n

-- ---- classes

abbrev pub captured_field : ValueType → FieldRec
captured_field of = record { attached = false; of = of }

abbrev pub declared_field : Field → FieldRec
declared_field f = record { attached = f.is_attached; of = kind_of f.of }

-- the names that the object captures, and then its fields
abbrev pub fields_of : Class → List FieldRec
fields_of c = map (λ of. captured_field (kind_of of)) c.captured ++ map declared_field c.fields

-- the operation that makes the objects of a class; the number of the first operation is given
abbrev pub initial_from : ℕ → List Operation → ℕ → ℕ
initial_from n [] class = n
initial_from n (o ∷ os) class = if o.class == class && is_initial o.kind then n else initial_from (suc n) os class

abbrev pub is_section : Kind → Bool
is_section kind.Named = false
is_section kind.Initial = false
is_section kind.Process = true

-- the process section of a class, where it has one; the number of the first operation is given
abbrev pub section_from : ℕ → List Operation → ℕ → Option ℕ
section_from n [] class = None
section_from n (o ∷ os) class = if o.class == class && is_section o.kind then Some n else section_from (suc n) os class

-- the operations of a class, by their names
abbrev pub operations_from : Source → ℕ → List Operation → ℕ → List OperationRec
operations_from s n [] class = []
operations_from s n (o ∷ os) class =
    (if o.class == class && is_named o.kind then record { name = name_number s o.name; operation = n } ∷ [] else [])
    ++ operations_from s (suc n) os class

abbrev pub numbers_to : ℕ → ℕ → List ℕ
numbers_to from zero = []
numbers_to from (suc n) = from ∷ numbers_to (suc from) n

-- for each named type, by its number, whether the class of a number conforms to it
abbrev pub conformances : Table → ℕ → List Bool
conformances table class = map (λ n. conforms table (named class) (named n)) (numbers_to 0 (length table.types))

abbrev pub class_of : Source → Class → ClassRec
class_of s c = record {
  name = c.name;
  initial = initial_from 1 s.core.operations c.number;
  process = section_from 1 s.core.operations c.number;
  monitored = c.is_monitored;
  conditions = c.conditions;
  fields = fields_of c;
  operations = operations_from s 1 s.core.operations c.number;
  conforms = conformances s.table c.number;
}

abbrev pub classes_of : Source → List ClassRec
classes_of s = map (class_of s) s.core.classes

abbrev pub globals_of : Source → List ValueType
globals_of s = map (λ c. kind_of c.of) s.core.constants
