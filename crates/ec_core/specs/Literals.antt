-- The literal texts in the parts of a core, in the order in which they stand.
use Rattle.std.specs.Prelude.{List, [], ◌∷◌, ◌++◌, Option, Some, None}
use Rattle.ec_core.specs.declared.Addend.{Addend, fold-Addend}
use Rattle.ec_core.specs.declared.Arm.{Arm, fold-Arm}
use Rattle.ec_core.specs.declared.Block.{Block, fold-Block}
use Rattle.ec_core.specs.declared.Expression.{Expression, fold-Expression}
use Rattle.ec_core.specs.declared.Expression.TheOpen.{Expression-F, Link-F, Addend-F, Factor-F}
use Rattle.ec_core.specs.declared.Factor.{Factor, fold-Factor}
use Rattle.ec_core.specs.declared.Link.{Link, fold-Link}
use Rattle.ec_core.specs.declared.Statement.{Statement, fold-Statement}
use Rattle.ec_core.specs.declared.Statement.TheOpen.{Statement-F, Arm-F, Block-F}
use Rattle.ec_types.specs.Names.{Text}

abbrev pub Texts : Type 0
Texts = List Text

abbrev pub joined : List Texts → Texts
joined [] = []
joined (ts ∷ more) = ts ++ joined more

abbrev pub if_there : Option Texts → Texts
if_there None = []
if_there (Some ts) = ts

-- the literal texts in an expression, in order
abbrev pub expression_texts : Expression-F Texts Texts Texts Texts → Texts
expression_texts (Expression-F.Literal text) = text ∷ []
expression_texts (Expression-F.NodeAt x at) = x
expression_texts (Expression-F.NewVector of size at) = size
expression_texts (Expression-F.Create class arguments) = joined arguments
expression_texts (Expression-F.Chain head links) = head ++ joined links
expression_texts (Expression-F.Negative x) = x
expression_texts (Expression-F.Not x) = x
expression_texts (Expression-F.View x of at) = x
expression_texts (Expression-F.IsFixed x at) = x
expression_texts (Expression-F.Term first factors) = first ++ joined factors
expression_texts (Expression-F.Sum first addends) = first ++ joined addends
expression_texts (Expression-F.Compare left op what right) = left ++ right
expression_texts (Expression-F.And first more) = first ++ joined more
expression_texts (Expression-F.Or first more) = first ++ joined more
expression_texts _ = []

abbrev pub link_texts : Link-F Texts Texts Texts Texts → Texts
link_texts (Link-F.Invoke name arguments of at) = joined arguments
link_texts (Link-F.Call builtin arguments at) = joined arguments
link_texts (Link-F.Element number of at) = number

abbrev pub addend_texts : Addend-F Texts Texts Texts Texts → Texts
addend_texts a = a.value

abbrev pub factor_texts : Factor-F Texts Texts Texts Texts → Texts
factor_texts f = f.value

abbrev pub texts_of : Expression → Texts
texts_of = fold-Expression Texts Texts Texts Texts expression_texts link_texts addend_texts factor_texts

abbrev pub texts_of_link : Link → Texts
texts_of_link = fold-Link Texts Texts Texts Texts expression_texts link_texts addend_texts factor_texts

abbrev pub texts_of_addend : Addend → Texts
texts_of_addend = fold-Addend Texts Texts Texts Texts expression_texts link_texts addend_texts factor_texts

abbrev pub texts_of_factor : Factor → Texts
texts_of_factor = fold-Factor Texts Texts Texts Texts expression_texts link_texts addend_texts factor_texts

abbrev pub texts_if : Option Expression → Texts
texts_if None = []
texts_if (Some x) = texts_of x

-- those in a statement
abbrev pub statement_texts : Statement-F Texts Texts Texts → Texts
statement_texts (Statement-F.Declare n value) = texts_if value
statement_texts (Statement-F.Assign place value) = texts_of value
statement_texts (Statement-F.SetElement vector number value at) = texts_of vector ++ (texts_of number ++ texts_of value)
statement_texts (Statement-F.Drop x) = texts_of x
statement_texts (Statement-F.Print x) = texts_of x
statement_texts (Statement-F.If arms other) = joined arms ++ if_there other
statement_texts (Statement-F.Loop block) = block
statement_texts (Statement-F.Exit when) = texts_if when
statement_texts Statement-F.Return = []
statement_texts (Statement-F.Assert x at) = texts_of x
statement_texts (Statement-F.Move x to at) = texts_of x ++ texts_of to
statement_texts (Statement-F.Fix x to at) = texts_of x ++ texts_of to
statement_texts (Statement-F.Refix x to at) = texts_of x ++ texts_of to
statement_texts (Statement-F.Unfix x at) = texts_of x
statement_texts (Statement-F.Wait n) = []
statement_texts (Statement-F.Signal n) = []

abbrev pub arm_texts : Arm-F Texts Texts Texts → Texts
arm_texts a = texts_of a.condition ++ a.block

abbrev pub block_texts : Block-F Texts Texts Texts → Texts
block_texts b = joined b.statements

abbrev pub texts_of_statement : Statement → Texts
texts_of_statement = fold-Statement Texts Texts Texts statement_texts arm_texts block_texts

abbrev pub texts_of_arm : Arm → Texts
texts_of_arm = fold-Arm Texts Texts Texts statement_texts arm_texts block_texts

abbrev pub texts_of_block : Block → Texts
texts_of_block = fold-Block Texts Texts Texts statement_texts arm_texts block_texts
