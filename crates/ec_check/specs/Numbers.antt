-- The numbers that stand in the core of a program, and that each of them is that of something which is there.
use Rattle.std.specs.Prelude.{◌≡◌, ℕ, ◌<◌, List, [], ◌∷◌, ◌++◌, map, length, Option, Some, None, All, Any, Contains}
use Rattle.ec_core.specs.declared.Addend.{Addend, fold-Addend}
use Rattle.ec_core.specs.declared.Arm.{Arm, fold-Arm}
use Rattle.ec_core.specs.declared.Block.{Block, fold-Block}
use Rattle.ec_core.specs.declared.Statement.TheOpen.{Statement-F, Arm-F, Block-F}
use Rattle.ec_core.specs.declared.Class.{Class}
use Rattle.ec_core.specs.declared.Constant.{Constant as CoreConstant}
use Rattle.ec_core.specs.declared.Core.{Core}
use Rattle.ec_core.specs.declared.Expression.{Expression, fold-Expression}
use Rattle.ec_core.specs.declared.Expression.TheOpen.{Expression-F, Link-F, Addend-F, Factor-F}
use Rattle.ec_core.specs.declared.Factor.{Factor, fold-Factor}
use Rattle.ec_core.specs.declared.Link.{Link, fold-Link}
use Rattle.ec_core.specs.declared.Operation.{Operation}
use Rattle.ec_core.specs.declared.Place.{Place}
use Rattle.ec_core.specs.declared.Place.TheVariants.{Variable, Captured, Field, Constant}
use Rattle.ec_core.specs.declared.Statement.{Statement, fold-Statement}

-- ---- the numbers that stand in a part of the core, in its order

pub data Number : Type 0 where
  -- where a value is kept
  Kept : Place → Number
  -- a class by its number, and how many captured values a new object of it gets
  Constructed : ℕ → ℕ → Number
  -- a class by its number, and how many arguments a new object of it gets
  Created : ℕ → ℕ → Number
  -- a variable that begins
  Begun : ℕ → Number
  -- a condition of the own object
  Condition : ℕ → Number

abbrev pub joined : List (List Number) → List Number
joined [] = []
joined (ns ∷ more) = ns ++ joined more

abbrev pub if_there : Option (List Number) → List Number
if_there None = []
if_there (Some ns) = ns

-- Of an expression, those of its parts being given: a place that is read; the class of a new object, with the places of
-- the values that it captures or with its arguments; else what its parts have.
abbrev pub expression_numbers : Expression-F (List Number) (List Number) (List Number) (List Number) → List Number
expression_numbers (Expression-F.Number n) = []
expression_numbers (Expression-F.Literal text) = []
expression_numbers (Expression-F.Truth b) = []
expression_numbers Expression-F.Nil = []
expression_numbers Expression-F.Itself = []
expression_numbers (Expression-F.Read place) = Kept place ∷ []
expression_numbers Expression-F.NodeCount = []
expression_numbers (Expression-F.NodeAt x at) = x
expression_numbers (Expression-F.NewVector of size at) = size
expression_numbers (Expression-F.Construct class places) = Constructed class (length places) ∷ map Kept places
expression_numbers (Expression-F.Create class arguments) = Created class (length arguments) ∷ joined arguments
expression_numbers (Expression-F.Chain head links) = head ++ joined links
expression_numbers (Expression-F.Negative x) = x
expression_numbers (Expression-F.Not x) = x
expression_numbers (Expression-F.View x of at) = x
expression_numbers (Expression-F.IsFixed x at) = x
expression_numbers (Expression-F.Term first factors) = first ++ joined factors
expression_numbers (Expression-F.Sum first addends) = first ++ joined addends
expression_numbers (Expression-F.Compare left op what right) = left ++ right
expression_numbers (Expression-F.And first more) = first ++ joined more
expression_numbers (Expression-F.Or first more) = first ++ joined more

-- of a call or an index: of its arguments
abbrev pub link_numbers : Link-F (List Number) (List Number) (List Number) (List Number) → List Number
link_numbers (Link-F.Invoke name arguments of at) = joined arguments
link_numbers (Link-F.Call builtin arguments at) = joined arguments
link_numbers (Link-F.Element number of at) = number

abbrev pub addend_numbers : Addend-F (List Number) (List Number) (List Number) (List Number) → List Number
addend_numbers a = a.value

abbrev pub factor_numbers : Factor-F (List Number) (List Number) (List Number) (List Number) → List Number
factor_numbers f = f.value

abbrev pub in_expression : Expression → List Number
in_expression =
    fold-Expression
    (List Number) (List Number) (List Number) (List Number) expression_numbers link_numbers addend_numbers factor_numbers

abbrev pub in_link : Link → List Number
in_link =
    fold-Link
    (List Number) (List Number) (List Number) (List Number) expression_numbers link_numbers addend_numbers factor_numbers

abbrev pub in_addend : Addend → List Number
in_addend =
    fold-Addend
    (List Number) (List Number) (List Number) (List Number) expression_numbers link_numbers addend_numbers factor_numbers

abbrev pub in_factor : Factor → List Number
in_factor =
    fold-Factor
    (List Number) (List Number) (List Number) (List Number) expression_numbers link_numbers addend_numbers factor_numbers

abbrev pub in_expression_if : Option Expression → List Number
in_expression_if None = []
in_expression_if (Some x) = in_expression x

-- Of a statement: a variable that begins; a place that gets a value; a condition; and what its parts have.
abbrev pub statement_numbers : Statement-F (List Number) (List Number) (List Number) → List Number
statement_numbers (Statement-F.Declare n value) = Begun n ∷ in_expression_if value
statement_numbers (Statement-F.Assign place value) = Kept place ∷ in_expression value
statement_numbers (Statement-F.SetElement vector number value at) =
    in_expression vector ++ (in_expression number ++ in_expression value)
statement_numbers (Statement-F.Drop x) = in_expression x
statement_numbers (Statement-F.Print x) = in_expression x
statement_numbers (Statement-F.If arms other) = joined arms ++ if_there other
statement_numbers (Statement-F.Loop block) = block
statement_numbers (Statement-F.Exit when) = in_expression_if when
statement_numbers Statement-F.Return = []
statement_numbers (Statement-F.Assert x at) = in_expression x
statement_numbers (Statement-F.Move x to at) = in_expression x ++ in_expression to
statement_numbers (Statement-F.Fix x to at) = in_expression x ++ in_expression to
statement_numbers (Statement-F.Refix x to at) = in_expression x ++ in_expression to
statement_numbers (Statement-F.Unfix x at) = in_expression x
statement_numbers (Statement-F.Wait n) = Condition n ∷ []
statement_numbers (Statement-F.Signal n) = Condition n ∷ []

abbrev pub arm_numbers : Arm-F (List Number) (List Number) (List Number) → List Number
arm_numbers a = in_expression a.condition ++ a.block

abbrev pub block_numbers : Block-F (List Number) (List Number) (List Number) → List Number
block_numbers b = joined b.statements

abbrev pub in_statement : Statement → List Number
in_statement = fold-Statement (List Number) (List Number) (List Number) statement_numbers arm_numbers block_numbers

abbrev pub in_arm : Arm → List Number
in_arm = fold-Arm (List Number) (List Number) (List Number) statement_numbers arm_numbers block_numbers

abbrev pub in_block : Block → List Number
in_block = fold-Block (List Number) (List Number) (List Number) statement_numbers arm_numbers block_numbers

-- ---- what there is

-- of a whole program: the numbers of its constants with a value, and its classes
pub record Whole : Type 0 where
  pub constants : List ℕ
  pub classes : List Class

-- for an operation: how many variables it has; how many fields, captured names and conditions its class has; and what the
-- program has
pub record Limits : Type 0 where
  pub variables : ℕ
  pub fields : ℕ
  pub captured : ℕ
  pub conditions : ℕ
  pub whole : Whole

-- One of so many variables, captured names or fields; or a constant with a value.
abbrev pub IsPlace : Limits → Place → Type 0
IsPlace limits (Variable n) = n < limits.variables
IsPlace limits (Captured n) = n < limits.captured
IsPlace limits (Field n) = n < limits.fields
IsPlace limits (Constant n) = Contains limits.whole.constants n

-- Some class has the number, and as many captured names or parameters as there are values.
abbrev pub InRange : Limits → Number → Type 0
InRange limits (Kept place) = IsPlace limits place
InRange limits (Constructed class values) =
    Any (λ (c : Class). (c.number ≡ class) × (length c.captured ≡ values)) limits.whole.classes
InRange limits (Created class arguments) =
    Any (λ (c : Class). (c.number ≡ class) × (c.parameters ≡ arguments)) limits.whole.classes
InRange limits (Begun n) = n < limits.variables
InRange limits (Condition n) = n < limits.conditions

-- ---- of a whole core

abbrev pub whole_of : Core → Whole
whole_of core = record { constants = map (λ (c : CoreConstant). c.number) core.constants; classes = core.classes }

abbrev pub limits_of : Whole → Class → Operation → Limits
limits_of whole class operation = record {
  variables = length operation.variables;
  fields = length class.fields;
  captured = length class.captured;
  conditions = class.conditions;
  whole = whole;
}

-- Outside every operation there are constants alone.
abbrev pub limits_outside : Whole → Limits
limits_outside whole = record { variables = 0; fields = 0; captured = 0; conditions = 0; whole = whole }

-- An operation is one of some class of the program, and each number in it is in range there.
abbrev pub IsOperation : Whole → Operation → Type 0
IsOperation whole operation =
    Any
    (λ (c : Class). (c.number ≡ operation.class) × All (InRange (limits_of whole c operation)) (in_block operation.block))
    whole.classes

-- Each number in the core is that of something which is there.
pub record IsInRange (core : Core) : Type 0 where
  pub operations : All (IsOperation (whole_of core)) core.operations
  pub constants : All (λ (c : CoreConstant). All (InRange (limits_outside (whole_of core))) (in_expression c.value)) core.constants
