-- Where expressions stand, and what is known there of the program and of the operation.
use Rattle.std.proofs.Common.{◌≡◌, ℕ, ◌<◌, true, List, [], ◌∷◌, ◌++◌, length, Option, Some, IfSome, option_map}
use Rattle.std.specs.Prelude.{slice_get}
use Rattle.ec_check.specs.Numbers.{Number, Constructed, Created}
use Rattle.ec_check.specs.WellTyped.{Site, Typed, constant_type_at, is_named, parameters_of, result_of}
use Rattle.ec_code.specs.declared.code.Operation.{Operation}
use Rattle.ec_code.specs.declared.code.Parts.{Parts}
use Rattle.ec_code.specs.Fine.{IsIn, OwnCall, TakesAndGives}
use Rattle.ec_code.specs.Typing.{class_type, field_types}
use Rattle.ec_types.specs.Conforms.{Conforms, operations_at}
use Rattle.ec_types.specs.Table.{conforms}
use Rattle.ec_types.specs.Types.{named, operation_named}
use Rattle.ec_types.specs.declared.conform.named_type.NamedType.{NamedType}
use Rattle.ec_types.specs.declared.conform.operations.NamedOperation.{NamedOperation}
use Rattle.ec_types.specs.declared.conform.static_type.StaticType.{StaticType}
use Rattle.ec_types.specs.Known.{IsOfProgram, NoneUnknown}
use Rattle.ec_core.specs.declared.Class.{Class}
use Rattle.ec_core.specs.declared.Operation.{Operation as CoreOperation}
use Rattle.ec_emission.specs.Expressions.{Emitted}
use Rattle.ec_accepted.proofs.Taking.{fits_itself}
use Rattle.ec_accepted.proofs.Pieces.{Setting, FitsAs}
use Rattle.ec_accepted.proofs.Shown.{Shown}
use Rattle.ec_emission.specs.Lowered.{class_declared, declared_of, field_types_of}
use Rattle.ec_meaning.specs.Programs.{Source, class_from, constant_number, name_number}
use Rattle.ec_types.specs.Names.{Text, is_same}
use Rattle.ec_check.specs.Operations.{as_seen}

-- The operation, by its number in the program that a source is lowered to; the number of its own class, where it is of an
-- object that is made; and the types of the names that the object captures and of its fields.
pub record Stand : Type 0 where
  pub source : Source
  pub parts : Parts
  pub number : ℕ
  pub operation : Operation
  pub own : Option ℕ
  pub captured : List StaticType
  pub fields : List StaticType

abbrev pub setting : Stand → Setting
setting c = record {
  declared = declared_of c.source;
  parts = c.parts;
  number = c.number;
  operation = c.operation;
}

abbrev pub site : Stand → Site
site c = record {
  table = c.source.table;
  core = c.source.core;
  own = c.own;
  variables = c.operation.variables;
  captured = c.captured;
  fields = c.fields;
}

abbrev pub types_in : Stand → List NamedType
types_in c = c.source.table.types

-- each of these is a type of the program
abbrev pub EachOfProgram : List NamedType → List StaticType → Type 0
EachOfProgram types ts = (n : ℕ) (t : StaticType) → slice_get ts n ≡ Some t → IsOfProgram types t

-- what is known of a class: where it is declared, and its types
pub record KnownClass (s : Source) (k : Class) : Type 0 where
  pub at : slice_get (declared_of s).classes (class_from 0 s.core.classes k.number) ≡ Some (class_declared k)
  pub number : k.number < length s.table.types
  pub captured : EachOfProgram s.table.types k.captured
  pub fields : EachOfProgram s.table.types (field_types_of k)

-- a named operation of the core, which is of the class with a number and has a name
pub record NamedOf (s : Source) (n : ℕ) (name : Text) (q : CoreOperation) : Type 0 where
  pub there : IsIn q s.core.operations
  pub class : q.class ≡ n
  pub named : is_named q.kind ≡ true
  pub same : is_same q.name name ≡ true

-- The own object may be called by the operation of this name, with what an operation of the core takes and gives.
abbrev pub Called : Stand → Text → CoreOperation → Type 0
Called c name q =
    (ts : List StaticType) (given : Option StaticType) →
    TakesAndGives (declared_of c.source) c.parts ts (parameters_of q) (result_of q) given →
    OwnCall (declared_of c.source) c.parts c.number c.operation (name_number c.source name) ts given

-- what is known of the own object's class
pub record KnownOwn (c : Stand) (n : ℕ) : Type 0 where
  pub type : class_type (declared_of c.source) c.operation.class ≡ named n
  pub there : n < length (types_in c)
  -- its type has no operation but those of the class
  pub exported :
      (name : Text) (v : NamedOperation) → operation_named (operations_at (types_in c) n) name ≡ Some v →
      (q : CoreOperation) × NamedOf c.source n name q × (v ≡ as_seen q)
  pub calls : (name : Text) (q : CoreOperation) → NamedOf c.source n name q → Called c name q
  -- what an operation of it gives is of the program
  pub results : (name : Text) (q : CoreOperation) → NamedOf c.source n name q →
      IfSome (result_of q) (IsOfProgram (types_in c))
  pub parameters : (name : Text) (q : CoreOperation) → NamedOf c.source n name q →
      EachOfProgram (types_in c) (parameters_of q)

-- `Right` is what holds of each number in the code.
pub record Known (c : Stand) (Right : Number → Type 0) : Type 0 where
  pub conforms : (a b : StaticType) → conforms c.source.table a b ≡ true → Conforms (types_in c) a b
  pub operations : NoneUnknown (types_in c)
  pub variables : EachOfProgram (types_in c) c.operation.variables
  pub captured : EachOfProgram (types_in c) c.captured
  pub fields : EachOfProgram (types_in c) c.fields
  pub constants :
      (n : ℕ) (t : StaticType) → constant_type_at c.source.core.constants n ≡ Some t →
      IsOfProgram (types_in c) t × (slice_get c.parts.constants (constant_number c.source n) ≡ Some t)
  pub own_fields : field_types (declared_of c.source) c.operation.class ≡ c.captured ++ c.fields
  pub own : (n : ℕ) → c.own ≡ Some n → KnownOwn c n
  pub classes : (k : Class) → IsIn k c.source.core.classes → KnownClass c.source k
  pub constructs :
      (n values : ℕ) → Right (Constructed n values) → (k : Class) → IsIn k c.source.core.classes → k.number ≡ n →
      k.parameters ≡ 0
  pub creates :
      (n arguments : ℕ) → Right (Created n arguments) → (k : Class) → IsIn k c.source.core.classes → k.number ≡ n →
      k.captured ≡ []

-- ---- what is stated of an expression

-- it is shown, and its type is of the program
pub record Stated (c : Stand) (t : Typed) (e : Emitted) : Type 0 where
  pub shown : Shown (setting c) t e
  pub of : (u : StaticType) → t.of ≡ Some u → IsOfProgram (types_in c) u

-- It is stated where it is well typed; and where it is the own object, it has its type.
pub record Ready (c : Stand) (t : Typed) (e : Emitted) : Type 0 where
  pub same : t.is_itself ≡ e.is_itself
  pub itself : t.is_itself ≡ true → t.of ≡ option_map named c.own
  pub stated : t.is_well ≡ true → Stated c t e

-- values of which each that is well typed is stated
abbrev pub AllStated : Stand → List Typed → List Emitted → Type 0
AllStated c [] [] = Unit {0}
AllStated c [] (e ∷ es) = ⊥
AllStated c (t ∷ ts) [] = ⊥
AllStated c (t ∷ ts) (e ∷ es) = (t.is_well ≡ true → Stated c t e) × AllStated c ts es

pub each_fits : (c : Stand) → NoneUnknown (types_in c) → (t : StaticType) → IsOfProgram (types_in c) t →
    FitsAs (setting c) t t
each_fits c known t h = fits_itself (types_in c) known t h
