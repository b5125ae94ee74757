-- Each part of a core has the form on which its lowering rests, and each type in it is one of the program.
use Rattle.std.specs.Prelude.{◌≡◌, ℕ, ◌<◌, nat_lt, ◌&&◌, Bool, true, false, List, [], ◌∷◌, Option, Some, None, All}
use Rattle.ec_types.specs.declared.conform.static_type.Plain.{Plain as PlainType}
use Rattle.ec_types.specs.declared.conform.static_type.Plain.TheVariants.{Integer, Boolean, String, Any, Node, Named}
use Rattle.ec_types.specs.declared.conform.static_type.StaticType.{StaticType}
use Rattle.ec_types.specs.declared.conform.static_type.StaticType.TheVariants.{Plain, Vector, Nil, Unknown}
use Rattle.ec_core.specs.declared.Addend.{Addend, fold-Addend}
use Rattle.ec_core.specs.declared.Arm.{Arm, fold-Arm}
use Rattle.ec_core.specs.declared.Block.{Block, fold-Block}
use Rattle.ec_core.specs.declared.Class.{Class}
use Rattle.ec_core.specs.declared.Constant.{Constant}
use Rattle.ec_core.specs.declared.Core.{Core}
use Rattle.ec_core.specs.declared.Expression.{Expression, fold-Expression}
use Rattle.ec_core.specs.declared.Expression.TheOpen.{Expression-F, Link-F, Addend-F, Factor-F}
use Rattle.ec_core.specs.declared.Factor.{Factor, fold-Factor}
use Rattle.ec_core.specs.declared.Field.{Field}
use Rattle.ec_core.specs.declared.Link.{Link, fold-Link}
use Rattle.ec_core.specs.declared.Operation.{Operation}
use Rattle.ec_core.specs.declared.Statement.{Statement, fold-Statement}
use Rattle.ec_core.specs.declared.Statement.TheOpen.{Statement-F, Arm-F, Block-F}

-- ---- types

-- A named type is one of a program with so many types where its number is below that.
abbrev pub is_plain_of : ℕ → PlainType → Bool
is_plain_of types Integer = true
is_plain_of types Boolean = true
is_plain_of types String = true
is_plain_of types Any = true
is_plain_of types Node = true
is_plain_of types (Named n) = nat_lt n types

-- A vector's type is one where that of its elements is. An unknown type is none.
abbrev pub is_of : ℕ → StaticType → Bool
is_of types (Plain of) = is_plain_of types of
is_of types (Vector inner of) = is_plain_of types of
is_of types Nil = true
is_of types Unknown = false

-- a result, where there is one
abbrev pub is_of_if : ℕ → Option StaticType → Bool
is_of_if types None = true
is_of_if types (Some of) = is_of types of

-- each type but that of nil
abbrev pub is_not_nil : StaticType → Bool
is_not_nil (Plain of) = true
is_not_nil (Vector inner of) = true
is_not_nil Nil = false
is_not_nil Unknown = true

-- ---- lists of parts

abbrev pub all_formed : List Bool → Bool
all_formed [] = true
all_formed (b ∷ bs) = b && all_formed bs

-- at least one, and all of them
abbrev pub some_formed : List Bool → Bool
some_formed [] = false
some_formed (b ∷ bs) = b && all_formed bs

abbrev pub formed_if : Option Bool → Bool
formed_if None = true
formed_if (Some b) = b

-- ---- expressions and statements, in a program with so many types

module _ (types : ℕ) where
  -- A chain has a link, no view is to nil, and the types of new vectors and of views are of the program.
  abbrev pub expression_formed : Expression-F Bool Bool Bool Bool → Bool
  expression_formed (Expression-F.NodeAt x at) = x
  expression_formed (Expression-F.NewVector of size at) = is_of types of && size
  expression_formed (Expression-F.Create class arguments) = all_formed arguments
  expression_formed (Expression-F.Chain head links) = head && some_formed links
  expression_formed (Expression-F.Negative x) = x
  expression_formed (Expression-F.Not x) = x
  expression_formed (Expression-F.View x of at) = is_not_nil of && (is_of types of && x)
  expression_formed (Expression-F.IsFixed x at) = x
  expression_formed (Expression-F.Term first factors) = first && all_formed factors
  expression_formed (Expression-F.Sum first addends) = first && all_formed addends
  expression_formed (Expression-F.Compare left op what right) = left && right
  expression_formed (Expression-F.And first more) = first && all_formed more
  expression_formed (Expression-F.Or first more) = first && all_formed more
  expression_formed _ = true

  -- The types of results and of elements are of the program.
  abbrev pub link_formed : Link-F Bool Bool Bool Bool → Bool
  link_formed (Link-F.Invoke name arguments of at) = is_of_if types of && all_formed arguments
  link_formed (Link-F.Call builtin arguments at) = all_formed arguments
  link_formed (Link-F.Element number of at) = is_of types of && number

  abbrev pub addend_formed : Addend-F Bool Bool Bool Bool → Bool
  addend_formed a = a.value

  abbrev pub factor_formed : Factor-F Bool Bool Bool Bool → Bool
  factor_formed f = f.value

  abbrev pub formed_expression : Expression → Bool
  formed_expression = fold-Expression Bool Bool Bool Bool expression_formed link_formed addend_formed factor_formed

  abbrev pub formed_link : Link → Bool
  formed_link = fold-Link Bool Bool Bool Bool expression_formed link_formed addend_formed factor_formed

  abbrev pub formed_addend : Addend → Bool
  formed_addend = fold-Addend Bool Bool Bool Bool expression_formed link_formed addend_formed factor_formed

  abbrev pub formed_factor : Factor → Bool
  formed_factor = fold-Factor Bool Bool Bool Bool expression_formed link_formed addend_formed factor_formed

  abbrev pub formed_expression_if : Option Expression → Bool
  formed_expression_if None = true
  formed_expression_if (Some x) = formed_expression x

  -- A statement is formed where each expression and each block in it is.
  abbrev pub statement_formed : Statement-F Bool Bool Bool → Bool
  statement_formed (Statement-F.Declare n value) = formed_expression_if value
  statement_formed (Statement-F.Assign place value) = formed_expression value
  statement_formed (Statement-F.SetElement vector number value at) =
      formed_expression vector && (formed_expression number && formed_expression value)
  statement_formed (Statement-F.Drop x) = formed_expression x
  statement_formed (Statement-F.Print x) = formed_expression x
  statement_formed (Statement-F.If arms other) = all_formed arms && formed_if other
  statement_formed (Statement-F.Loop block) = block
  statement_formed (Statement-F.Exit when) = formed_expression_if when
  statement_formed Statement-F.Return = true
  statement_formed (Statement-F.Assert x at) = formed_expression x
  statement_formed (Statement-F.Move x to at) = formed_expression x && formed_expression to
  statement_formed (Statement-F.Fix x to at) = formed_expression x && formed_expression to
  statement_formed (Statement-F.Refix x to at) = formed_expression x && formed_expression to
  statement_formed (Statement-F.Unfix x at) = formed_expression x
  statement_formed (Statement-F.Wait n) = true
  statement_formed (Statement-F.Signal n) = true

  abbrev pub arm_formed : Arm-F Bool Bool Bool → Bool
  arm_formed a = formed_expression a.condition && a.block

  abbrev pub block_formed : Block-F Bool Bool Bool → Bool
  block_formed b = all_formed b.statements

  abbrev pub formed_statement : Statement → Bool
  formed_statement = fold-Statement Bool Bool Bool statement_formed arm_formed block_formed

  abbrev pub formed_arm : Arm → Bool
  formed_arm = fold-Arm Bool Bool Bool statement_formed arm_formed block_formed

  abbrev pub formed_block : Block → Bool
  formed_block = fold-Block Bool Bool Bool statement_formed arm_formed block_formed

-- ---- a whole core

abbrev pub IsOf : ℕ → StaticType → Type 0
IsOf types of = is_of types of ≡ true

-- Its block is formed, and its variables are of types of the program.
pub record IsFormedOperation (types : ℕ) (o : Operation) : Type 0 where
  pub block : formed_block types o.block ≡ true
  pub variables : All (IsOf types) o.variables

-- It has the number of a type of the program, and its captured names and fields are of such types.
pub record IsFormedClass (types : ℕ) (c : Class) : Type 0 where
  pub number : c.number < types
  pub captured : All (IsOf types) c.captured
  pub fields : All (λ (f : Field). IsOf types f.of) c.fields

-- Its value is formed, and it is of a type of the program.
pub record IsFormedConstant (types : ℕ) (c : Constant) : Type 0 where
  pub of : IsOf types c.of
  pub value : formed_expression types c.value ≡ true

-- Each operation, class and constant of a core in a program with so many types is formed.
pub record IsFormed (types : ℕ) (core : Core) : Type 0 where
  pub operations : All (IsFormedOperation types) core.operations
  pub classes : All (IsFormedClass types) core.classes
  pub constants : All (IsFormedConstant types) core.constants
