-- The types of the vectors that a core makes.
use Rattle.std.specs.Prelude.{List, [], ◌∷◌, ◌++◌, Option, Some, None}
use Rattle.ec_core.specs.declared.Addend.{Addend, fold-Addend}
use Rattle.ec_core.specs.declared.Arm.{Arm, fold-Arm}
use Rattle.ec_core.specs.declared.Block.{Block, fold-Block}
use Rattle.ec_core.specs.declared.Expression.{Expression, fold-Expression}
use Rattle.ec_core.specs.declared.Expression.TheOpen.{Expression-F, Link-F, Addend-F, Factor-F}
use Rattle.ec_core.specs.declared.Factor.{Factor, fold-Factor}
use Rattle.ec_core.specs.declared.Link.{Link, fold-Link}
use Rattle.ec_core.specs.declared.Statement.{Statement, fold-Statement}
use Rattle.ec_core.specs.declared.Statement.TheOpen.{Statement-F, Arm-F, Block-F}
use Rattle.ec_types.specs.declared.conform.static_type.StaticType.{StaticType}

abbrev pub Types : Type 0
Types = List StaticType

abbrev pub joined : List Types → Types
joined [] = []
joined (ts ∷ more) = ts ++ joined more

abbrev pub if_there : Option Types → Types
if_there None = []
if_there (Some ts) = ts

-- the types of the vectors that an expression makes
abbrev pub expression_made : Expression-F Types Types Types Types → Types
expression_made (Expression-F.NodeAt x at) = x
expression_made (Expression-F.NewVector of size at) = of ∷ size
expression_made (Expression-F.Create class arguments) = joined arguments
expression_made (Expression-F.Chain head links) = head ++ joined links
expression_made (Expression-F.Negative x) = x
expression_made (Expression-F.Not x) = x
expression_made (Expression-F.View x of at) = x
expression_made (Expression-F.IsFixed x at) = x
expression_made (Expression-F.Term first factors) = first ++ joined factors
expression_made (Expression-F.Sum first addends) = first ++ joined addends
expression_made (Expression-F.Compare left op what right) = left ++ right
expression_made (Expression-F.And first more) = first ++ joined more
expression_made (Expression-F.Or first more) = first ++ joined more
expression_made _ = []

abbrev pub link_made : Link-F Types Types Types Types → Types
link_made (Link-F.Invoke name arguments of at) = joined arguments
link_made (Link-F.Call builtin arguments at) = joined arguments
link_made (Link-F.Element number of at) = number

abbrev pub addend_made : Addend-F Types Types Types Types → Types
addend_made a = a.value

abbrev pub factor_made : Factor-F Types Types Types Types → Types
factor_made f = f.value

abbrev pub made_of : Expression → Types
made_of = fold-Expression Types Types Types Types expression_made link_made addend_made factor_made

abbrev pub made_of_link : Link → Types
made_of_link = fold-Link Types Types Types Types expression_made link_made addend_made factor_made

abbrev pub made_of_addend : Addend → Types
made_of_addend = fold-Addend Types Types Types Types expression_made link_made addend_made factor_made

abbrev pub made_of_factor : Factor → Types
made_of_factor = fold-Factor Types Types Types Types expression_made link_made addend_made factor_made

abbrev pub made_if : Option Expression → Types
made_if None = []
made_if (Some x) = made_of x

-- those in a statement
abbrev pub statement_made : Statement-F Types Types Types → Types
statement_made (Statement-F.Declare n value) = made_if value
statement_made (Statement-F.Assign place value) = made_of value
statement_made (Statement-F.SetElement vector number value at) = made_of vector ++ (made_of number ++ made_of value)
statement_made (Statement-F.Drop x) = made_of x
statement_made (Statement-F.Print x) = made_of x
statement_made (Statement-F.If arms other) = joined arms ++ if_there other
statement_made (Statement-F.Loop block) = block
statement_made (Statement-F.Exit when) = made_if when
statement_made Statement-F.Return = []
statement_made (Statement-F.Assert x at) = made_of x
statement_made (Statement-F.Move x to at) = made_of x ++ made_of to
statement_made (Statement-F.Fix x to at) = made_of x ++ made_of to
statement_made (Statement-F.Refix x to at) = made_of x ++ made_of to
statement_made (Statement-F.Unfix x at) = made_of x
statement_made (Statement-F.Wait n) = []
statement_made (Statement-F.Signal n) = []

abbrev pub arm_made : Arm-F Types Types Types → Types
arm_made a = made_of a.condition ++ a.block

abbrev pub block_made : Block-F Types Types Types → Types
block_made b = joined b.statements

abbrev pub made_of_statement : Statement → Types
made_of_statement = fold-Statement Types Types Types statement_made arm_made block_made

abbrev pub made_of_arm : Arm → Types
made_of_arm = fold-Arm Types Types Types statement_made arm_made block_made

abbrev pub made_of_block : Block → Types
made_of_block = fold-Block Types Types Types statement_made arm_made block_made
