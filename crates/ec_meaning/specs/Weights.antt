-- How many silent steps items can take before the next stop, at most. A loop's body doesn't count, since the loop rests first.
use Rattle.std.specs.Prelude.{ℕ, ◌+◌, ◌*◌, List, [], ◌∷◌, length, Option, Some, None}
use Rattle.ec_core.specs.declared.Addend.{Addend, fold-Addend}
use Rattle.ec_core.specs.declared.Arm.{Arm, fold-Arm}
use Rattle.ec_core.specs.declared.Block.{Block, fold-Block}
use Rattle.ec_core.specs.declared.Expression.{Expression, fold-Expression}
use Rattle.ec_core.specs.declared.Expression.TheOpen.{Expression-F, Link-F, Addend-F, Factor-F}
use Rattle.ec_core.specs.declared.Factor.{Factor, fold-Factor}
use Rattle.ec_core.specs.declared.Link.{Link, fold-Link}
use Rattle.ec_core.specs.declared.Statement.{Statement, fold-Statement}
use Rattle.ec_core.specs.declared.Statement.TheOpen.{Statement-F, Arm-F, Block-F}
use Rattle.ec_meaning.specs.declared.item.Item.{Item}
use Rattle.ec_meaning.specs.declared.item.Item.TheVariants as i

abbrev pub total : List ℕ → ℕ
total [] = 0
total (n ∷ ns) = 1 + (n + total ns)

abbrev pub weight_if : Option ℕ → ℕ
weight_if None = 0
weight_if (Some n) = n

-- ---- expressions

abbrev pub expression_weight : Expression-F ℕ ℕ ℕ ℕ → ℕ
expression_weight (Expression-F.NodeAt x at) = 2 + x
expression_weight (Expression-F.NewVector of x at) = 2 + x
expression_weight (Expression-F.Construct class places) = 2 + 2 * length places
expression_weight (Expression-F.Create class xs) = 2 + total xs
expression_weight (Expression-F.Chain head links) = 1 + (head + total links)
expression_weight (Expression-F.Negative x) = 2 + x
expression_weight (Expression-F.Not x) = 2 + x
expression_weight (Expression-F.View x of at) = 2 + x
expression_weight (Expression-F.IsFixed x at) = 2 + x
expression_weight (Expression-F.Term first factors) = 1 + (first + total factors)
expression_weight (Expression-F.Sum first addends) = 1 + (first + total addends)
expression_weight (Expression-F.Compare left op what right) = 2 + (left + right)
expression_weight (Expression-F.And first more) = 1 + (first + total more)
expression_weight (Expression-F.Or first more) = 1 + (first + total more)
expression_weight _ = 2

abbrev pub link_weight : Link-F ℕ ℕ ℕ ℕ → ℕ
link_weight (Link-F.Invoke name xs result at) = 2 + total xs
link_weight (Link-F.Call b xs at) = 2 + total xs
link_weight (Link-F.Element x of at) = 2 + x

abbrev pub addend_weight : Addend-F ℕ ℕ ℕ ℕ → ℕ
addend_weight a = 3 + a.value

abbrev pub factor_weight : Factor-F ℕ ℕ ℕ ℕ → ℕ
factor_weight f = 2 + f.value

abbrev pub weight_of_expression : Expression → ℕ
weight_of_expression = fold-Expression ℕ ℕ ℕ ℕ expression_weight link_weight addend_weight factor_weight

abbrev pub weight_of_link : Link → ℕ
weight_of_link = fold-Link ℕ ℕ ℕ ℕ expression_weight link_weight addend_weight factor_weight

abbrev pub weight_of_addend : Addend → ℕ
weight_of_addend = fold-Addend ℕ ℕ ℕ ℕ expression_weight link_weight addend_weight factor_weight

abbrev pub weight_of_factor : Factor → ℕ
weight_of_factor = fold-Factor ℕ ℕ ℕ ℕ expression_weight link_weight addend_weight factor_weight

-- ---- statements

abbrev pub value_weight : Option Expression → ℕ
value_weight None = 0
value_weight (Some x) = weight_of_expression x

abbrev pub statement_weight : Statement-F ℕ ℕ ℕ → ℕ
statement_weight (Statement-F.Declare n value) = 2 + value_weight value
statement_weight (Statement-F.Assign p x) = 2 + weight_of_expression x
statement_weight (Statement-F.SetElement vector number x at) =
    2 + (weight_of_expression vector + (weight_of_expression number + weight_of_expression x))
statement_weight (Statement-F.Drop x) = 2 + weight_of_expression x
statement_weight (Statement-F.Print x) = 2 + weight_of_expression x
statement_weight (Statement-F.If arms other) = 2 + (total arms + weight_if other)
statement_weight (Statement-F.Loop b) = 2
statement_weight (Statement-F.Exit when) = 2 + value_weight when
statement_weight Statement-F.Return = 2
statement_weight (Statement-F.Assert x at) = 2 + weight_of_expression x
statement_weight (Statement-F.Move x to at) = 2 + (weight_of_expression x + weight_of_expression to)
statement_weight (Statement-F.Fix x to at) = 2 + (weight_of_expression x + weight_of_expression to)
statement_weight (Statement-F.Refix x to at) = 2 + (weight_of_expression x + weight_of_expression to)
statement_weight (Statement-F.Unfix x at) = 2 + weight_of_expression x
statement_weight (Statement-F.Wait n) = 1
statement_weight (Statement-F.Signal n) = 1

abbrev pub arm_weight : Arm-F ℕ ℕ ℕ → ℕ
arm_weight a = 2 + (weight_of_expression a.condition + a.block)

abbrev pub block_weight : Block-F ℕ ℕ ℕ → ℕ
block_weight b = total b.statements

abbrev pub weight_of_statement : Statement → ℕ
weight_of_statement = fold-Statement ℕ ℕ ℕ statement_weight arm_weight block_weight

abbrev pub weight_of_arm : Arm → ℕ
weight_of_arm = fold-Arm ℕ ℕ ℕ statement_weight arm_weight block_weight

abbrev pub weight_of_block : Block → ℕ
weight_of_block = fold-Block ℕ ℕ ℕ statement_weight arm_weight block_weight

abbrev pub weight_of_arms : List Arm → ℕ
weight_of_arms [] = 0
weight_of_arms (a ∷ arms) = 1 + (weight_of_arm a + weight_of_arms arms)

abbrev pub weight_of_other : Option Block → ℕ
weight_of_other None = 0
weight_of_other (Some b) = weight_of_block b

-- ---- items

abbrev pub item_weight : Item → ℕ
item_weight (i.Do x) = weight_of_statement x
item_weight (i.Evaluate x) = weight_of_expression x
item_weight (i.Follow l) = weight_of_link l
item_weight (i.Multiply f) = weight_of_factor f
item_weight (i.Add d) = weight_of_addend d
item_weight (i.AndThen x) = 1 + weight_of_expression x
item_weight (i.OrElse x) = 1 + weight_of_expression x
item_weight (i.Choose arms other) = 1 + (weight_of_arms arms + weight_of_other other)
item_weight (i.Again b) = 1
item_weight (i.Rest action takes) = 1
item_weight (i.Calculate op at) = 1
item_weight (i.Join op at) = 2
item_weight i.Negate = 1
item_weight i.Invert = 1
item_weight (i.Compare op) = 1
item_weight (i.Branch b arms other) = 2 + (weight_of_block b + (weight_of_arms arms + weight_of_other other))
item_weight i.ExitIf = 1
item_weight (i.Store p) = 1
item_weight i.Discard = 1
item_weight (i.Require at) = 1
item_weight i.Leave = 1

abbrev pub weight : List Item → ℕ
weight [] = 0
weight (x ∷ xs) = item_weight x + weight xs
