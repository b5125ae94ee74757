-- The numbers in the code of the core.
use Rattle.std.specs.Prelude.{[], ◌∷◌, ◌++◌, Option, Some, None, All}
use Rattle.ec_core.specs.declared.Addend.{Addend, fold-Addend}
use Rattle.ec_core.specs.declared.Arm.{Arm, fold-Arm}
use Rattle.ec_core.specs.declared.Block.{Block, fold-Block}
use Rattle.ec_core.specs.declared.Constant.{Constant}
use Rattle.ec_core.specs.declared.Core.{Core}
use Rattle.ec_core.specs.declared.Expression.{Expression, fold-Expression}
use Rattle.ec_core.specs.declared.Expression.TheOpen.{Expression-F, Link-F, Addend-F, Factor-F}
use Rattle.ec_core.specs.declared.Factor.{Factor, fold-Factor}
use Rattle.ec_core.specs.declared.Link.{Link, fold-Link}
use Rattle.ec_core.specs.declared.Operation.{Operation}
use Rattle.ec_core.specs.declared.Statement.{Statement, fold-Statement}
use Rattle.ec_core.specs.declared.Statement.TheOpen.{Statement-F, Arm-F, Block-F}
use Rattle.ec_core_laws.specs.TreeNumbers.{Numbers, joined, if_there, Fits}

-- the numbers in an expression, in order
abbrev pub expression_numbers : Expression-F Numbers Numbers Numbers Numbers → Numbers
expression_numbers (Expression-F.Number n) = n ∷ []
expression_numbers (Expression-F.NodeAt x at) = x
expression_numbers (Expression-F.NewVector of size at) = size
expression_numbers (Expression-F.Create class arguments) = joined arguments
expression_numbers (Expression-F.Chain head links) = head ++ joined links
expression_numbers (Expression-F.Negative x) = x
expression_numbers (Expression-F.Not x) = x
expression_numbers (Expression-F.View x of at) = x
expression_numbers (Expression-F.IsFixed x at) = x
expression_numbers (Expression-F.Term first factors) = first ++ joined factors
expression_numbers (Expression-F.Sum first addends) = first ++ joined addends
expression_numbers (Expression-F.Compare left op what right) = left ++ right
expression_numbers (Expression-F.And first more) = first ++ joined more
expression_numbers (Expression-F.Or first more) = first ++ joined more
expression_numbers _ = []

abbrev pub link_numbers : Link-F Numbers Numbers Numbers Numbers → Numbers
link_numbers (Link-F.Invoke name arguments of at) = joined arguments
link_numbers (Link-F.Call builtin arguments at) = joined arguments
link_numbers (Link-F.Element number of at) = number

abbrev pub addend_numbers : Addend-F Numbers Numbers Numbers Numbers → Numbers
addend_numbers a = a.value

abbrev pub factor_numbers : Factor-F Numbers Numbers Numbers Numbers → Numbers
factor_numbers f = f.value

abbrev pub numbers_in : Expression → Numbers
numbers_in = fold-Expression Numbers Numbers Numbers Numbers expression_numbers link_numbers addend_numbers factor_numbers

abbrev pub numbers_in_link : Link → Numbers
numbers_in_link = fold-Link Numbers Numbers Numbers Numbers expression_numbers link_numbers addend_numbers factor_numbers

abbrev pub numbers_in_addend : Addend → Numbers
numbers_in_addend = fold-Addend Numbers Numbers Numbers Numbers expression_numbers link_numbers addend_numbers factor_numbers

abbrev pub numbers_in_factor : Factor → Numbers
numbers_in_factor = fold-Factor Numbers Numbers Numbers Numbers expression_numbers link_numbers addend_numbers factor_numbers

abbrev pub numbers_if : Option Expression → Numbers
numbers_if None = []
numbers_if (Some x) = numbers_in x

-- those in a statement
abbrev pub statement_numbers : Statement-F Numbers Numbers Numbers → Numbers
statement_numbers (Statement-F.Declare n value) = numbers_if value
statement_numbers (Statement-F.Assign place value) = numbers_in value
statement_numbers (Statement-F.SetElement vector number value at) = numbers_in vector ++ (numbers_in number ++ numbers_in value)
statement_numbers (Statement-F.Drop x) = numbers_in x
statement_numbers (Statement-F.Print x) = numbers_in x
statement_numbers (Statement-F.If arms other) = joined arms ++ if_there other
statement_numbers (Statement-F.Loop block) = block
statement_numbers (Statement-F.Exit when) = numbers_if when
statement_numbers Statement-F.Return = []
statement_numbers (Statement-F.Assert x at) = numbers_in x
statement_numbers (Statement-F.Move x to at) = numbers_in x ++ numbers_in to
statement_numbers (Statement-F.Fix x to at) = numbers_in x ++ numbers_in to
statement_numbers (Statement-F.Refix x to at) = numbers_in x ++ numbers_in to
statement_numbers (Statement-F.Unfix x at) = numbers_in x
statement_numbers (Statement-F.Wait n) = []
statement_numbers (Statement-F.Signal n) = []

abbrev pub arm_numbers : Arm-F Numbers Numbers Numbers → Numbers
arm_numbers a = numbers_in a.condition ++ a.block

abbrev pub block_numbers : Block-F Numbers Numbers Numbers → Numbers
block_numbers b = joined b.statements

abbrev pub numbers_in_statement : Statement → Numbers
numbers_in_statement = fold-Statement Numbers Numbers Numbers statement_numbers arm_numbers block_numbers

abbrev pub numbers_in_arm : Arm → Numbers
numbers_in_arm = fold-Arm Numbers Numbers Numbers statement_numbers arm_numbers block_numbers

abbrev pub numbers_in_block : Block → Numbers
numbers_in_block = fold-Block Numbers Numbers Numbers statement_numbers arm_numbers block_numbers

-- Each number is below 2^31: in the operations, and in the values of the constants.
pub record HasSmallIntegers (core : Core) : Type 0 where
  pub operations : All (λ (o : Operation). All Fits (numbers_in_block o.block)) core.operations
  pub constants : All (λ (c : Constant). All Fits (numbers_in c.value)) core.constants
