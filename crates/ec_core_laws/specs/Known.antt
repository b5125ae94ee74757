-- No type in the code of the core is unknown.
use Rattle.std.specs.Prelude.{◌≡◌, ◌&&◌, Bool, true, false, List, [], ◌∷◌, Option, Some, None, All}
use Rattle.ec_types.specs.declared.conform.static_type.StaticType.{StaticType}
use Rattle.ec_types.specs.declared.conform.static_type.StaticType.TheVariants.{Plain, Vector, Nil, Unknown}
use Rattle.ec_core.specs.declared.Addend.{Addend, fold-Addend}
use Rattle.ec_core.specs.declared.Arm.{Arm, fold-Arm}
use Rattle.ec_core.specs.declared.Block.{Block, fold-Block}
use Rattle.ec_core.specs.declared.Constant.{Constant}
use Rattle.ec_core.specs.declared.Core.{Core}
use Rattle.ec_core.specs.declared.Expression.{Expression, fold-Expression}
use Rattle.ec_core.specs.declared.Expression.TheOpen.{Expression-F, Link-F, Addend-F, Factor-F}
use Rattle.ec_core.specs.declared.Factor.{Factor, fold-Factor}
use Rattle.ec_core.specs.declared.Link.{Link, fold-Link}
use Rattle.ec_core.specs.declared.Operation.{Operation}
use Rattle.ec_core.specs.declared.Statement.{Statement, fold-Statement}
use Rattle.ec_core.specs.declared.Statement.TheOpen.{Statement-F, Arm-F, Block-F}

abbrev pub is_known : StaticType → Bool
is_known (Plain of) = true
is_known (Vector inner of) = true
is_known Nil = true
is_known Unknown = false

-- a result, where there is one
abbrev pub is_known_if : Option StaticType → Bool
is_known_if None = true
is_known_if (Some of) = is_known of

abbrev pub all_known : List Bool → Bool
all_known [] = true
all_known (b ∷ bs) = b && all_known bs

abbrev pub known_if : Option Bool → Bool
known_if None = true
known_if (Some b) = b

-- Whether each type in an expression is known: of new vectors, of views, of elements and of results.
abbrev pub expression_known : Expression-F Bool Bool Bool Bool → Bool
expression_known (Expression-F.NodeAt x at) = x
expression_known (Expression-F.NewVector of size at) = is_known of && size
expression_known (Expression-F.Create class arguments) = all_known arguments
expression_known (Expression-F.Chain head links) = head && all_known links
expression_known (Expression-F.Negative x) = x
expression_known (Expression-F.Not x) = x
expression_known (Expression-F.View x of at) = is_known of && x
expression_known (Expression-F.IsFixed x at) = x
expression_known (Expression-F.Term first factors) = first && all_known factors
expression_known (Expression-F.Sum first addends) = first && all_known addends
expression_known (Expression-F.Compare left op what right) = left && right
expression_known (Expression-F.And first more) = first && all_known more
expression_known (Expression-F.Or first more) = first && all_known more
expression_known _ = true

abbrev pub link_known : Link-F Bool Bool Bool Bool → Bool
link_known (Link-F.Invoke name arguments of at) = is_known_if of && all_known arguments
link_known (Link-F.Call builtin arguments at) = all_known arguments
link_known (Link-F.Element number of at) = is_known of && number

abbrev pub addend_known : Addend-F Bool Bool Bool Bool → Bool
addend_known a = a.value

abbrev pub factor_known : Factor-F Bool Bool Bool Bool → Bool
factor_known f = f.value

abbrev pub knows : Expression → Bool
knows = fold-Expression Bool Bool Bool Bool expression_known link_known addend_known factor_known

abbrev pub knows_link : Link → Bool
knows_link = fold-Link Bool Bool Bool Bool expression_known link_known addend_known factor_known

abbrev pub knows_addend : Addend → Bool
knows_addend = fold-Addend Bool Bool Bool Bool expression_known link_known addend_known factor_known

abbrev pub knows_factor : Factor → Bool
knows_factor = fold-Factor Bool Bool Bool Bool expression_known link_known addend_known factor_known

-- Each type in the values of the constants is known.
abbrev pub KnowsConstant : Constant → Type 0
KnowsConstant c = knows c.value ≡ true

abbrev pub knows_if : Option Expression → Bool
knows_if None = true
knows_if (Some x) = knows x

abbrev pub statement_known : Statement-F Bool Bool Bool → Bool
statement_known (Statement-F.Declare n value) = knows_if value
statement_known (Statement-F.Assign place value) = knows value
statement_known (Statement-F.SetElement vector number value at) = knows vector && (knows number && knows value)
statement_known (Statement-F.Drop x) = knows x
statement_known (Statement-F.Print x) = knows x
statement_known (Statement-F.If arms other) = all_known arms && known_if other
statement_known (Statement-F.Loop block) = block
statement_known (Statement-F.Exit when) = knows_if when
statement_known Statement-F.Return = true
statement_known (Statement-F.Assert x at) = knows x
statement_known (Statement-F.Move x to at) = knows x && knows to
statement_known (Statement-F.Fix x to at) = knows x && knows to
statement_known (Statement-F.Refix x to at) = knows x && knows to
statement_known (Statement-F.Unfix x at) = knows x
statement_known (Statement-F.Wait n) = true
statement_known (Statement-F.Signal n) = true

abbrev pub arm_known : Arm-F Bool Bool Bool → Bool
arm_known a = knows a.condition && a.block

abbrev pub block_known : Block-F Bool Bool Bool → Bool
block_known b = all_known b.statements

abbrev pub knows_statement : Statement → Bool
knows_statement = fold-Statement Bool Bool Bool statement_known arm_known block_known

abbrev pub knows_arm : Arm → Bool
knows_arm = fold-Arm Bool Bool Bool statement_known arm_known block_known

abbrev pub knows_block : Block → Bool
knows_block = fold-Block Bool Bool Bool statement_known arm_known block_known

-- Each type in its code is known: in the operations, and in the values of the constants.
pub record KnowsItsTypes (core : Core) : Type 0 where
  pub operations : All (λ (o : Operation). knows_block o.block ≡ true) core.operations
  pub constants : All KnowsConstant core.constants
