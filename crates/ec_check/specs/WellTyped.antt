-- That the core of a program is well typed. Each part of it is judged by types that the core itself keeps and by the table of
-- types, so that what runs the core, or lowers it, needs no rule of the text.
use Rattle.std.specs.Prelude.{◌≡◌, ℕ, ◌==◌, ◌&&◌, ◌||◌, Bool, true, false, if◌then◌else◌, List, [], ◌∷◌, map, take, slice_get}
use Rattle.std.specs.Prelude.{Option, Some, None, option_map, option_and_then, is_some, All, Any}
use Rattle.ec_ast.specs.declared.Additive.{Additive}
use Rattle.ec_ast.specs.declared.Comparison.{Comparison}
use Rattle.ec_types.specs.Conforms.{operations_at}
use Rattle.ec_types.specs.Table.{Table, conforms}
use Rattle.ec_types.specs.Types.{element_of, is_same_type, known, named, operation_named}
use Rattle.ec_types.specs.declared.conform.operations.NamedOperation.{NamedOperation}
use Rattle.ec_types.specs.declared.conform.static_type.Plain.TheVariants.{Named}
use Rattle.ec_types.specs.declared.conform.static_type.StaticType.{StaticType}
use Rattle.ec_types.specs.declared.conform.static_type.StaticType.TheVariants.{Plain, Nil}
use Rattle.ec_core.specs.declared.Addend.{Addend, fold-Addend}
use Rattle.ec_core.specs.declared.Builtin.{Builtin}
use Rattle.ec_core.specs.declared.Builtin.TheVariants.{AsString, Length, GetSlice, Size}
use Rattle.ec_core.specs.declared.Class.{Class}
use Rattle.ec_core.specs.declared.Compared.{Compared}
use Rattle.ec_core.specs.declared.Compared.TheVariants.{Numbers, Truths, Texts, References}
use Rattle.ec_core.specs.declared.Constant.{Constant as CoreConstant}
use Rattle.ec_core.specs.declared.Core.{Core}
use Rattle.ec_core.specs.declared.Expression.{Expression, fold-Expression}
use Rattle.ec_core.specs.declared.Expression.TheOpen.{Expression-F, Link-F, Addend-F, Factor-F}
use Rattle.ec_core.specs.declared.Factor.{Factor, fold-Factor}
use Rattle.ec_core.specs.declared.Kind.{Kind}
use Rattle.ec_core.specs.declared.Kind.TheVariants as kind
use Rattle.ec_core.specs.declared.Link.{Link, fold-Link}
use Rattle.ec_core.specs.declared.Operation.{Operation}
use Rattle.ec_core.specs.declared.Place.{Place}
use Rattle.ec_core.specs.declared.Place.TheVariants.{Variable, Captured, Field, Constant}
use Rattle.ec_core.specs.declared.Statement.{Statement, fold-Statement}
use Rattle.ec_core.specs.declared.Statement.TheOpen.{Statement-F, Arm-F, Block-F}
use Rattle.ec_core.specs.declared.Arm.{Arm, fold-Arm}
use Rattle.ec_core.specs.declared.Block.{Block, fold-Block}
use Rattle.ec_types.specs.Names.{Text, is_same as is_same_name}
use Rattle.ec_rules.specs.Operands.{are_alike, can_compare, operand_of, result_type}
use Rattle.ec_rules.specs.Types.{boolean, integer, node, string, is_vector, takes}
use Rattle.ec_rules.specs.declared.operands.Wanted.{Wanted}
use Rattle.ec_rules.specs.declared.operands.Wanted.TheVariants as wanted

-- ---- where a part stands

-- What an expression may name: the own object, by the number of its class; the variables of the operation, the names that
-- the object captures, and its fields, each by its type; and what the program has.
pub record Site : Type 0 where
  pub table : Table
  pub core : Core
  pub own : Option ℕ
  pub variables : List StaticType
  pub captured : List StaticType
  pub fields : List StaticType

-- The first constant with a number; no two have one.
abbrev pub constant_type_at : List CoreConstant → ℕ → Option StaticType
constant_type_at [] n = None
constant_type_at (c ∷ cs) n = if c.number == n then Some c.of else constant_type_at cs n

abbrev pub type_at : Site → Place → Option StaticType
type_at site (Variable n) = slice_get site.variables n
type_at site (Captured n) = slice_get site.captured n
type_at site (Field n) = slice_get site.fields n
type_at site (Constant n) = constant_type_at site.core.constants n

-- ---- what is known of an expression

-- Its type, where it has one: a call may give nothing. Whether it and all within it are well typed. Whether it is `self`.
pub record Typed : Type 0 where
  pub of : Option StaticType
  pub is_well : Bool
  pub is_itself : Bool

abbrev pub typed_if : Bool → Option StaticType → Typed
typed_if is_well of = record { of = of; is_well = is_well; is_itself = false }

abbrev pub is_taken : Wanted → Option StaticType → Bool
is_taken w None = false
is_taken w (Some of) = takes w of

-- a value of a kind
abbrev pub is_of : Wanted → Typed → Bool
is_of w x = x.is_well && is_taken w x.of

abbrev pub all_are : Wanted → List Typed → Bool
all_are w [] = true
all_are w (x ∷ xs) = is_of w x && all_are w xs

abbrev pub is_same_result : Option StaticType → Option StaticType → Bool
is_same_result None None = true
is_same_result None (Some b) = false
is_same_result (Some a) None = false
is_same_result (Some a) (Some b) = is_same_type a b

-- ---- values and the places into which they go

abbrev pub conforms_if : Table → Option StaticType → StaticType → Bool
conforms_if table None wanted = false
conforms_if table (Some of) wanted = conforms table of wanted

-- a value that conforms to a type
abbrev pub goes_in : Table → StaticType → Typed → Bool
goes_in table wanted x = x.is_well && conforms_if table x.of wanted

abbrev pub goes_in_if : Table → Option StaticType → Typed → Bool
goes_in_if table None x = false
goes_in_if table (Some wanted) x = goes_in table wanted x

-- as many values as types, each conforming to its own
abbrev pub go_in : Table → List StaticType → List Typed → Bool
go_in table [] [] = true
go_in table [] (x ∷ xs) = false
go_in table (t ∷ ts) [] = false
go_in table (t ∷ ts) (x ∷ xs) = goes_in table t x && go_in table ts xs

-- as many places as types, each of its own
abbrev pub are_captured : List StaticType → List (Option StaticType) → Bool
are_captured [] [] = true
are_captured [] (p ∷ ps) = false
are_captured (t ∷ ts) [] = false
are_captured (t ∷ ts) (p ∷ ps) = is_same_result (Some t) p && are_captured ts ps

-- ---- classes and operations

abbrev pub some_class : (Class → Bool) → List Class → Bool
some_class test [] = false
some_class test (c ∷ cs) = test c || some_class test cs

abbrev pub parameters_of_class : Class → List StaticType
parameters_of_class c = take c.parameters (map (λ f. f.of) c.fields)

abbrev pub is_named : Kind → Bool
is_named kind.Named = true
is_named kind.Initial = false
is_named kind.Process = false

abbrev pub parameters_of : Operation → List StaticType
parameters_of o = take o.parameters o.variables

-- The result is the variable behind the parameters.
abbrev pub result_of : Operation → Option StaticType
result_of o = if o.has_result then slice_get o.variables o.parameters else None

-- It takes these arguments, and gives this result.
abbrev pub can_be_called : Table → List StaticType → Option StaticType → List Typed → Option StaticType → Bool
can_be_called table parameters gives arguments result =
    go_in table parameters arguments && is_same_result (option_and_then known gives) result

abbrev pub fits_operation : Table → Option NamedOperation → List Typed → Option StaticType → Bool
fits_operation table None arguments result = false
fits_operation table (Some o) arguments result = can_be_called table o.parameters o.result arguments result

-- a type has an operation of that name, which can be called so
abbrev pub type_has : Table → Option StaticType → Text → List Typed → Option StaticType → Bool
type_has table (Some (Plain (Named n))) name arguments result =
    fits_operation table (operation_named (operations_at table.types n) name) arguments result
type_has table _ name arguments result = false

abbrev pub is_own : Table → ℕ → Text → List Typed → Option StaticType → Operation → Bool
is_own table class name arguments result o =
    o.class == class
    && (is_named o.kind && (is_same_name o.name name && can_be_called table (parameters_of o) (result_of o) arguments result))

abbrev pub some_operation : (Operation → Bool) → List Operation → Bool
some_operation test [] = false
some_operation test (o ∷ os) = test o || some_operation test os

abbrev pub own_has : Site → Option ℕ → Text → List Typed → Option StaticType → Bool
own_has site None name arguments result = false
own_has site (Some class) name arguments result = some_operation (is_own site.table class name arguments result) site.core.operations

-- `self` may invoke each operation of the own object, exported or not; else it is one that the type of the receiver has.
abbrev pub can_invoke : Site → Typed → Text → List Typed → Option StaticType → Bool
can_invoke site before name arguments result =
    (before.is_itself && own_has site site.own name arguments result) || type_has site.table before.of name arguments result

-- ---- calls and indices, by what stands before them

abbrev pub are_none : List Typed → Bool
are_none [] = true
are_none (x ∷ xs) = false

abbrev pub are_two_integers : List Typed → Bool
are_two_integers (x ∷ y ∷ []) = is_of wanted.Integer x && is_of wanted.Integer y
are_two_integers _ = false

abbrev pub call_typed : Typed → Builtin → List Typed → Typed
call_typed before AsString arguments =
    typed_if ((is_of wanted.Integer before || is_of wanted.Boolean before) && are_none arguments) (Some string)
call_typed before Length arguments = typed_if (is_of wanted.String before && are_none arguments) (Some integer)
call_typed before GetSlice arguments = typed_if (is_of wanted.String before && are_two_integers arguments) (Some string)
call_typed before Size arguments = typed_if (is_of wanted.Vector before && are_none arguments) (Some integer)

-- an element of this type
abbrev pub is_element : Typed → StaticType → Bool
is_element vector of = vector.is_well && is_same_result (option_and_then element_of vector.of) (Some of)

-- what is known of a call or an index, by what is known of what stands before it
abbrev pub AfterLink : Type 0
AfterLink = Typed → Typed

abbrev pub along : Typed → List AfterLink → Typed
along x [] = x
along x (l ∷ ls) = along (l x) ls

-- ---- sums and comparisons

pub record TypedAddend : Type 0 where
  pub operator : Additive
  pub value : Typed

abbrev pub added : Typed → List TypedAddend → Typed
added left [] = typed_if left.is_well left.of
added left (a ∷ more) =
    added (typed_if (is_of (operand_of a.operator) left && is_of (operand_of a.operator) a.value) (Some (result_type a.operator))) more

-- the operands that are so compared
abbrev pub wanted_of : Compared → Wanted
wanted_of Numbers = wanted.Integer
wanted_of Truths = wanted.Boolean
wanted_of Texts = wanted.String
wanted_of References = wanted.Reference

-- Both operands are what they are said to be, and the comparison takes them.
abbrev pub are_compared : Comparison → Compared → Option StaticType → Option StaticType → Bool
are_compared op what (Some a) (Some b) =
    can_compare op a
    && (can_compare op b && (are_alike a b && (takes (wanted_of what) a && takes (wanted_of what) b)))
are_compared op what _ _ = false

-- ---- one layer

module _ (site : Site) where
  abbrev pub expression_typed : Expression-F Typed AfterLink TypedAddend Typed → Typed
  expression_typed (Expression-F.Number n) = typed_if true (Some integer)
  expression_typed (Expression-F.Literal text) = typed_if true (Some string)
  expression_typed (Expression-F.Truth b) = typed_if true (Some boolean)
  expression_typed Expression-F.Nil = typed_if true (Some Nil)
  expression_typed Expression-F.Itself = record { of = option_map named site.own; is_well = is_some site.own; is_itself = true }
  expression_typed (Expression-F.Read place) = typed_if (is_some (type_at site place)) (type_at site place)
  expression_typed Expression-F.NodeCount = typed_if true (Some integer)
  expression_typed (Expression-F.NodeAt number at) = typed_if (is_of wanted.Integer number) (Some node)
  expression_typed (Expression-F.NewVector of size at) = typed_if (is_vector of && is_of wanted.Integer size) (Some of)
  expression_typed (Expression-F.Construct class places) =
      typed_if
      (some_class (λ c. c.number == class && are_captured c.captured (map (type_at site) places)) site.core.classes)
      (Some (named class))
  expression_typed (Expression-F.Create class arguments) =
      typed_if
      (some_class (λ c. c.number == class && go_in site.table (parameters_of_class c) arguments) site.core.classes)
      (Some (named class))
  expression_typed (Expression-F.Chain head links) = along head links
  expression_typed (Expression-F.Negative x) = typed_if (is_of wanted.Integer x) (Some integer)
  expression_typed (Expression-F.Not x) = typed_if (is_of wanted.Boolean x) (Some boolean)
  expression_typed (Expression-F.View x of at) = typed_if (is_of wanted.Reference x && takes wanted.Reference of) (Some of)
  expression_typed (Expression-F.IsFixed x at) = typed_if (is_of wanted.Reference x) (Some boolean)
  expression_typed (Expression-F.Term first factors) = typed_if (all_are wanted.Integer (first ∷ factors)) (Some integer)
  expression_typed (Expression-F.Sum first addends) = added first addends
  expression_typed (Expression-F.Compare left op what right) =
      typed_if (left.is_well && (right.is_well && are_compared op what left.of right.of)) (Some boolean)
  expression_typed (Expression-F.And first more) = typed_if (all_are wanted.Boolean (first ∷ more)) (Some boolean)
  expression_typed (Expression-F.Or first more) = typed_if (all_are wanted.Boolean (first ∷ more)) (Some boolean)

  abbrev pub link_typed : Link-F Typed AfterLink TypedAddend Typed → AfterLink
  link_typed (Link-F.Invoke name arguments result at) before =
      typed_if (before.is_well && can_invoke site before name arguments result) result
  link_typed (Link-F.Call builtin arguments at) before = call_typed before builtin arguments
  link_typed (Link-F.Element number of at) before = typed_if (is_element before of && is_of wanted.Integer number) (Some of)

  abbrev pub factor_typed : Factor-F Typed AfterLink TypedAddend Typed → Typed
  factor_typed f = f.value

  abbrev pub addend_typed : Addend-F Typed AfterLink TypedAddend Typed → TypedAddend
  addend_typed a = record { operator = a.operator; value = a.value }

  -- ---- expressions

  abbrev pub typed : Expression → Typed
  typed = fold-Expression Typed AfterLink TypedAddend Typed expression_typed link_typed addend_typed factor_typed

  abbrev pub typed_link : Link → AfterLink
  typed_link = fold-Link Typed AfterLink TypedAddend Typed expression_typed link_typed addend_typed factor_typed

  abbrev pub typed_factor : Factor → Typed
  typed_factor = fold-Factor Typed AfterLink TypedAddend Typed expression_typed link_typed addend_typed factor_typed

  abbrev pub typed_addend : Addend → TypedAddend
  typed_addend = fold-Addend Typed AfterLink TypedAddend Typed expression_typed link_typed addend_typed factor_typed

  -- ---- statements

  abbrev pub holds_if : Option Expression → (Typed → Bool) → Bool
  holds_if None test = true
  holds_if (Some x) test = test (typed x)

  abbrev pub is_well_if : Option Bool → Bool
  is_well_if None = true
  is_well_if (Some b) = b

  abbrev pub all_well : List Bool → Bool
  all_well [] = true
  all_well (b ∷ bs) = b && all_well bs

  abbrev pub are_references : Expression → Expression → Bool
  are_references x to = is_of wanted.Reference (typed x) && is_of wanted.Reference (typed to)

  -- a value for the elements of a vector
  abbrev pub goes_in_vector : Typed → Typed → Bool
  goes_in_vector vector value = vector.is_well && goes_in_if site.table (option_and_then element_of vector.of) value

  abbrev pub statement_is_well : Statement-F Bool Bool Bool → Bool
  statement_is_well (Statement-F.Declare n value) =
      is_some (slice_get site.variables n) && holds_if value (goes_in_if site.table (slice_get site.variables n))
  statement_is_well (Statement-F.Assign place value) = goes_in_if site.table (type_at site place) (typed value)
  statement_is_well (Statement-F.SetElement vector number value at) =
      is_of wanted.Integer (typed number) && goes_in_vector (typed vector) (typed value)
  statement_is_well (Statement-F.Drop x) = (typed x).is_well
  statement_is_well (Statement-F.Print x) = is_of wanted.String (typed x)
  statement_is_well (Statement-F.If arms other) = all_well arms && is_well_if other
  statement_is_well (Statement-F.Loop block) = block
  statement_is_well (Statement-F.Exit when) = holds_if when (is_of wanted.Boolean)
  statement_is_well Statement-F.Return = true
  statement_is_well (Statement-F.Assert x at) = is_of wanted.Boolean (typed x)
  statement_is_well (Statement-F.Move x to at) = are_references x to
  statement_is_well (Statement-F.Fix x to at) = are_references x to
  statement_is_well (Statement-F.Refix x to at) = are_references x to
  statement_is_well (Statement-F.Unfix x at) = is_of wanted.Reference (typed x)
  statement_is_well (Statement-F.Wait n) = true
  statement_is_well (Statement-F.Signal n) = true

  abbrev pub arm_is_well : Arm-F Bool Bool Bool → Bool
  arm_is_well a = is_of wanted.Boolean (typed a.condition) && a.block

  abbrev pub block_is_well : Block-F Bool Bool Bool → Bool
  block_is_well b = all_well b.statements

  abbrev pub is_well_statement : Statement → Bool
  is_well_statement = fold-Statement Bool Bool Bool statement_is_well arm_is_well block_is_well

  abbrev pub is_well_arm : Arm → Bool
  is_well_arm = fold-Arm Bool Bool Bool statement_is_well arm_is_well block_is_well

  abbrev pub is_well_block : Block → Bool
  is_well_block = fold-Block Bool Bool Bool statement_is_well arm_is_well block_is_well

-- ---- of a whole core

abbrev pub site_in : Table → Core → Class → Operation → Site
site_in table core class operation = record {
  table = table;
  core = core;
  own = Some class.number;
  variables = operation.variables;
  captured = class.captured;
  fields = map (λ f. f.of) class.fields;
}

-- Outside every operation there are constants alone.
abbrev pub site_outside : Table → Core → Site
site_outside table core = record { table = table; core = core; own = None; variables = []; captured = []; fields = [] }

-- An operation is one of some class of the program, and well typed there.
abbrev pub IsWellOperation : Table → Core → Operation → Type 0
IsWellOperation table core operation =
    Any
    (λ (c : Class). (c.number ≡ operation.class) × (is_well_block (site_in table core c operation) operation.block ≡ true))
    core.classes

-- A constant's value conforms to its type.
abbrev pub IsWellConstant : Table → Core → CoreConstant → Type 0
IsWellConstant table core c = goes_in table c.of (typed (site_outside table core) c.value) ≡ true

-- Each operation, and the value of each constant, is well typed.
pub record IsWellTyped (table : Table) (core : Core) : Type 0 where
  pub operations : All (IsWellOperation table core) core.operations
  pub constants : All (IsWellConstant table core) core.constants
