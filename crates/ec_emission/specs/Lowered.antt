-- Which program of three-address code a source is lowered to. The source determines it: each list of live variables by what
-- is live, the literals by the texts of the core, and all else by cases.
use Rattle.std.specs.Prelude.{◌≡◌, ℕ, Bool, true, false, if◌then◌else◌, List, [], ◌∷◌, ◌++◌, map, take, length}
use Rattle.std.specs.Prelude.{Option, Some, None, slice_get}
use Rattle.ec_code.specs.declared.code.Line.{Line}
use Rattle.ec_code.specs.declared.code.Op.{Op}
use Rattle.ec_code.specs.declared.code.Operation.{Operation as Made}
use Rattle.ec_code.specs.declared.code.Parts.{Parts}
use Rattle.ec_code.specs.declared.code.Variable.{Variable}
use Rattle.ec_code.specs.Typing.{Declared, DeclaredClass}
use Rattle.ec_types.specs.declared.conform.static_type.StaticType.{StaticType}
use Rattle.ec_types.specs.Types.{named}
use Rattle.ec_core.specs.declared.Class.{Class}
use Rattle.ec_core.specs.declared.Core.{Core}
use Rattle.ec_core.specs.declared.Kind.{Kind}
use Rattle.ec_core.specs.declared.Kind.TheVariants as kind
use Rattle.ec_core.specs.declared.Operation.{Operation}
use Rattle.ec_emission.specs.Literals.{literals_of}
use Rattle.ec_emission.specs.Statements.{operation_ops, program_ops}
use Rattle.ec_emission.specs.Types.{Around, lines_of}
use Rattle.ec_code.specs.Live.{IsLiveList}
use Rattle.ec_meaning.specs.Programs.{Source, class_number, classes_of, operation_names}
use Rattle.ec_meaning.specs.Steps.{captured_by}
use Rattle.ec_world.specs.Agree.{AllTwo}
use Rattle.ec_world.specs.declared.class.ClassNo.{ClassNo}
use Rattle.ec_world.specs.declared.class.ClassNo.TheVariants.{Program}

-- ---- what is declared

-- what the parameters and the declared fields of a class are of
abbrev pub field_types_of : Class → List StaticType
field_types_of c = map (λ f. f.of) c.fields

-- A creation gives the names that the object captures, and the parameters; an object keeps the captured names before its
-- fields.
abbrev pub class_declared : Class → DeclaredClass
class_declared c = record {
  number = c.number;
  given = c.captured ++ take c.parameters (field_types_of c);
  fields = c.captured ++ field_types_of c;
}

abbrev pub declared_of : Source → Declared
declared_of s = record {
  types = s.table.types;
  names = operation_names s.core.operations;
  classes = map class_declared s.core.classes;
}

abbrev pub constant_types : Core → List StaticType
constant_types core = map (λ c. c.of) core.constants

abbrev pub around : Source → ClassNo → List StaticType → Around
around s class variables =
    record { declared = declared_of s; constants = constant_types s.core; class = class; variables = variables }

-- ---- code

-- The lines have these steps, each with the variables that are live there and their types.
pub record HasLines (w : Around) (ops : List Op) (code : List Line) : Type 0 where
  pub lists : List (List Variable)
  pub count : length lists ≡ length ops
  pub live : (q : ℕ) (xs : List Variable) → slice_get lists q ≡ Some xs → IsLiveList ops q xs
  pub lines : code ≡ lines_of w [] ops lists

-- ---- operations

abbrev pub class_of_operation : Source → Operation → ClassNo
class_of_operation s o = class_number s o.class

abbrev pub parameter_types : Operation → List StaticType
parameter_types o = take o.parameters o.variables

-- The result variable stands behind the parameters. The making of an object gives it, and a process section gives nothing.
abbrev pub result_type : Kind → Operation → Option StaticType
result_type kind.Named o = if o.has_result then slice_get o.variables o.parameters else None
result_type kind.Initial o = Some (named o.class)
result_type kind.Process o = None

abbrev pub is_process : Kind → Bool
is_process kind.Named = false
is_process kind.Initial = false
is_process kind.Process = true

pub record IsOperationOf (s : Source) (o : Operation) (made : Made) : Type 0 where
  pub class : made.class ≡ class_of_operation s o
  pub parameters : made.parameters ≡ parameter_types o
  pub result : made.result ≡ result_type o.kind o
  pub is_lowest : made.is_lowest ≡ is_process o.kind
  pub variables : made.variables ≡ o.variables
  pub code :
      HasLines (around s (class_of_operation s o) o.variables)
      (operation_ops s (captured_by s (class_of_operation s o)) (literals_of s.core) o) made.code

-- the program's own operation
pub record IsProgramOf (s : Source) (made : Made) : Type 0 where
  pub class : made.class ≡ Program
  pub parameters : made.parameters ≡ []
  pub result : made.result ≡ None
  pub is_lowest : made.is_lowest ≡ true
  pub variables : made.variables ≡ []
  pub code : HasLines (around s Program []) (program_ops s (literals_of s.core)) made.code

-- It stands first, and the others follow in the order of the core.
abbrev pub AreOperationsOf : Source → List Made → Type 0
AreOperationsOf s [] = ⊥
AreOperationsOf s (o ∷ os) = IsProgramOf s o × AllTwo (IsOperationOf s) s.core.operations os

-- ---- programs

pub record IsLowered (s : Source) (p : Parts) : Type 0 where
  pub classes : p.classes ≡ classes_of s
  pub constants : p.constants ≡ constant_types s.core
  pub literals : p.literals ≡ literals_of s.core
  pub operations : AreOperationsOf s p.operations
