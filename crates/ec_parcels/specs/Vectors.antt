-- The types of vectors that a program's text writes and those that its code makes, and the numbers of its classes on the wire.
use Rattle.std.specs.Prelude.{◌≡◌, ℕ, if◌then◌else◌, Bool, List, [], ◌∷◌, ◌++◌, length, Option, Some, None}
use Rattle.std.specs.List.{list_any}
use Rattle.ec_code.specs.declared.activation.CodeActivation.{CodeActivation}
use Rattle.ec_code.specs.declared.code.Line.{Line}
use Rattle.ec_code.specs.declared.code.Op.{Op}
use Rattle.ec_code.specs.declared.code.Op.TheVariants as op
use Rattle.ec_code.specs.declared.code.Operation.{Operation}
use Rattle.ec_code.specs.declared.code.Parts.{Parts}
use Rattle.ec_parcels.specs.Classes.{ClassTable}
use Rattle.ec_world.specs.Group.{Has}
use Rattle.ec_world.specs.Objects.{is_same_vector, object_at}
use Rattle.ec_world.specs.declared.class.ClassNo.TheVariants.{Vector}
use Rattle.ec_world.specs.declared.class.VectorType.{VectorType}
use Rattle.ec_world.specs.declared.object.ObjectRec.{ObjectRec}
use Rattle.ec_world.specs.declared.stop.Stop.{Stop}
use Rattle.ec_world.specs.declared.stop.Stop.TheVariants as stop
use Rattle.ec_world.specs.declared.world.World.{World}

-- ---- what code makes

-- the type of the vectors that the action of a stop makes, if it makes one
abbrev pub made_at : Stop → Option VectorType
made_at (stop.NewVector of line) = Some of
made_at _ = None

abbrev pub made_by : Op → Option VectorType
made_by (op.Rest row) = made_at row.stop
made_by _ = None

-- the type of the vectors that a line of code makes, if it makes one
abbrev pub made_on : Line → Option VectorType
made_on line = made_by line.op

-- ---- each type once

-- whether a type is one of some
abbrev pub has_type : List VectorType → VectorType → Bool
has_type types of = list_any (λ t. is_same_vector t of) types

-- one type more, unless it is there
abbrev pub with_type : List VectorType → VectorType → List VectorType
with_type types of = if has_type types of then types else types ++ of ∷ []

abbrev pub with_made : List VectorType → Option VectorType → List VectorType
with_made types None = types
with_made types (Some of) = with_type types of

-- those of a list too, in its order
abbrev pub with_types : List VectorType → List VectorType → List VectorType
with_types types [] = types
with_types types (of ∷ rest) = with_types (with_type types of) rest

-- the types of a list, each where it stands first
abbrev pub each_once : List VectorType → List VectorType
each_once written = with_types [] written

-- those of some lines too, in the order of these
abbrev pub with_lines : List VectorType → List Line → List VectorType
with_lines types [] = types
with_lines types (line ∷ rest) = with_lines (with_made types (made_on line)) rest

-- those of some operations too, in the order of these
abbrev pub with_operations : List VectorType → List Operation → List VectorType
with_operations types [] = types
with_operations types (o ∷ os) = with_operations (with_lines types o.code) os

-- the types of which the code makes vectors, in the order of the code, each once
abbrev pub vector_types : Parts → List VectorType
vector_types p = with_operations [] p.operations

-- ---- numbers

-- The types that are written, each where it stands first; and behind them any others of which the code makes vectors, in the order of the code.
abbrev pub numbered_types : Parts → List VectorType → List VectorType
numbered_types p written = with_operations (each_once written) p.operations

-- Classes and object constructors have the first numbers, and vector types follow, those that are written first.
abbrev pub table_of : Parts → List VectorType → ClassTable
table_of p written = record { made = length p.classes; vectors = numbered_types p written }

-- the numbers of a program's classes, where some list of vector types is written
pub record IsTableOf (p : Parts) (table : ClassTable) : Type 0 where
  pub written : List VectorType
  pub is : table ≡ table_of p written

-- ---- worlds

-- the code makes vectors of the type of each vector that is in a world
abbrev pub VectorsAreMade : Parts → World CodeActivation → Type 0
VectorsAreMade p w =
    (oid : ℕ) (o : ObjectRec) (of : VectorType) → object_at w.common.objects oid ≡ Some o → o.class ≡ Vector of → Has (vector_types p) of
