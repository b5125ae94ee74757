-- How the classes of objects are named in reports.
use Rattle.std.specs.Prelude.{ℕ, zero, suc, ◌+◌, List, [], ◌∷◌, ◌++◌, Option, Some, None, codes, slice_get}
use Rattle.ec_types.specs.Table.{Table}
use Rattle.ec_core.specs.declared.Class.{Class}
use Rattle.ec_meaning.specs.Programs.{Source}
use Rattle.ec_world.specs.declared.class.ClassNo.{ClassNo}
use Rattle.ec_world.specs.declared.class.ClassNo.TheVariants.{Node, Program, Made, Vector}
use Rattle.ec_world.specs.declared.class.PlainType.{PlainType}
use Rattle.ec_world.specs.declared.class.PlainType.TheVariants as plain
use Rattle.ec_world.specs.declared.class.VectorType.{VectorType}
use Rattle.ec_world.specs.declared.object.ObjectRec.{ObjectRec}

abbrev pub text_or_none : Option (List ℕ) → List ℕ
text_or_none None = []
text_or_none (Some text) = text

-- A named type is spelled as it is declared.
abbrev pub plain_name : Table → PlainType → List ℕ
plain_name table plain.Integer = codes "Integer"
plain_name table plain.Boolean = codes "Boolean"
plain_name table plain.Bytes = codes "String"
plain_name table plain.Any = codes "Any"
plain_name table plain.Node = codes "Node"
plain_name table (plain.Named n) = text_or_none (slice_get table.names n)

-- a text so often
abbrev pub times : ℕ → List ℕ → List ℕ
times zero text = []
times (suc n) text = times n text ++ text

-- `Vector.of[Integer]`; of vectors of vectors with one more `Vector.of[` and `]` for each
abbrev pub vector_name : Table → VectorType → List ℕ
vector_name table v =
    times (v.inner + 1) (codes "Vector.of[") ++ plain_name table v.of ++ times (v.inner + 1) (codes "]")

abbrev pub declared_name : Option Class → List ℕ
declared_name None = []
declared_name (Some c) = c.name

abbrev pub class_name : Source → ClassNo → List ℕ
class_name s Node = codes "Node"
class_name s Program = codes "program"
class_name s (Made k) = declared_name (slice_get s.core.classes k)
class_name s (Vector of) = vector_name s.table of

-- that of an object, where it is there
abbrev pub name_if : Source → Option ObjectRec → Option (List ℕ)
name_if s None = None
name_if s (Some o) = Some (class_name s o.class)
