-- How many values the object constructors in the parts of the core capture, all together.
use Rattle.std.specs.Prelude.{ℕ, ◌+◌, length, Option, Some, None}
use Rattle.ec_core.specs.declared.Addend.{Addend, fold-Addend}
use Rattle.ec_core.specs.declared.Arm.{Arm, fold-Arm}
use Rattle.ec_core.specs.declared.Block.{Block, fold-Block}
use Rattle.ec_core.specs.declared.Expression.{Expression, fold-Expression}
use Rattle.ec_core.specs.declared.Expression.TheOpen.{Expression-F, Link-F, Addend-F, Factor-F}
use Rattle.ec_core.specs.declared.Factor.{Factor, fold-Factor}
use Rattle.ec_core.specs.declared.Link.{Link, fold-Link}
use Rattle.ec_core.specs.declared.Statement.{Statement, fold-Statement}
use Rattle.ec_core.specs.declared.Statement.TheOpen.{Statement-F, Arm-F, Block-F}
use Rattle.ec_core_laws.specs.Measures.{all_of, if_there}

-- ---- expressions

abbrev pub expression_captures : Expression-F ℕ ℕ ℕ ℕ → ℕ
expression_captures (Expression-F.NodeAt x at) = x
expression_captures (Expression-F.NewVector of size at) = size
expression_captures (Expression-F.Construct class places) = length places
expression_captures (Expression-F.Create class arguments) = all_of arguments
expression_captures (Expression-F.Chain head links) = head + all_of links
expression_captures (Expression-F.Negative x) = x
expression_captures (Expression-F.Not x) = x
expression_captures (Expression-F.View x of at) = x
expression_captures (Expression-F.IsFixed x at) = x
expression_captures (Expression-F.Term first factors) = first + all_of factors
expression_captures (Expression-F.Sum first addends) = first + all_of addends
expression_captures (Expression-F.Compare left op what right) = left + right
expression_captures (Expression-F.And first more) = first + all_of more
expression_captures (Expression-F.Or first more) = first + all_of more
expression_captures _ = 0

abbrev pub link_captures : Link-F ℕ ℕ ℕ ℕ → ℕ
link_captures (Link-F.Invoke name arguments of at) = all_of arguments
link_captures (Link-F.Call builtin arguments at) = all_of arguments
link_captures (Link-F.Element number of at) = number

abbrev pub factor_captures : Factor-F ℕ ℕ ℕ ℕ → ℕ
factor_captures f = f.value

abbrev pub addend_captures : Addend-F ℕ ℕ ℕ ℕ → ℕ
addend_captures a = a.value

abbrev pub captures_of : Expression → ℕ
captures_of = fold-Expression ℕ ℕ ℕ ℕ expression_captures link_captures addend_captures factor_captures

abbrev pub captures_of_link : Link → ℕ
captures_of_link = fold-Link ℕ ℕ ℕ ℕ expression_captures link_captures addend_captures factor_captures

abbrev pub captures_of_factor : Factor → ℕ
captures_of_factor = fold-Factor ℕ ℕ ℕ ℕ expression_captures link_captures addend_captures factor_captures

abbrev pub captures_of_addend : Addend → ℕ
captures_of_addend = fold-Addend ℕ ℕ ℕ ℕ expression_captures link_captures addend_captures factor_captures

abbrev pub captures_if : Option Expression → ℕ
captures_if None = 0
captures_if (Some x) = captures_of x

-- ---- statements

abbrev pub statement_captures : Statement-F ℕ ℕ ℕ → ℕ
statement_captures (Statement-F.Declare n value) = captures_if value
statement_captures (Statement-F.Assign place value) = captures_of value
statement_captures (Statement-F.SetElement vector number value at) =
    captures_of vector + (captures_of number + captures_of value)
statement_captures (Statement-F.Drop x) = captures_of x
statement_captures (Statement-F.Print x) = captures_of x
statement_captures (Statement-F.If arms other) = all_of arms + if_there other
statement_captures (Statement-F.Loop block) = block
statement_captures (Statement-F.Exit when) = captures_if when
statement_captures Statement-F.Return = 0
statement_captures (Statement-F.Assert x at) = captures_of x
statement_captures (Statement-F.Move x to at) = captures_of x + captures_of to
statement_captures (Statement-F.Fix x to at) = captures_of x + captures_of to
statement_captures (Statement-F.Refix x to at) = captures_of x + captures_of to
statement_captures (Statement-F.Unfix x at) = captures_of x
statement_captures (Statement-F.Wait n) = 0
statement_captures (Statement-F.Signal n) = 0

abbrev pub arm_captures : Arm-F ℕ ℕ ℕ → ℕ
arm_captures a = captures_of a.condition + a.block

abbrev pub block_captures : Block-F ℕ ℕ ℕ → ℕ
block_captures b = all_of b.statements

abbrev pub captures_of_statement : Statement → ℕ
captures_of_statement = fold-Statement ℕ ℕ ℕ statement_captures arm_captures block_captures

abbrev pub captures_of_arm : Arm → ℕ
captures_of_arm = fold-Arm ℕ ℕ ℕ statement_captures arm_captures block_captures

abbrev pub captures_of_block : Block → ℕ
captures_of_block = fold-Block ℕ ℕ ℕ statement_captures arm_captures block_captures
