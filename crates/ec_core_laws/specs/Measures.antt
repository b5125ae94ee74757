-- How large the parts of the core are: their nodes, as the tree's are counted, and how many values they hold at one time.
use Rattle.std.specs.Prelude.{ℕ, ◌+◌, ◌≤◌, max, List, [], ◌∷◌, length, Option, Some, None}
use Rattle.ec_core.specs.declared.Addend.{Addend, fold-Addend}
use Rattle.ec_core.specs.declared.Arm.{Arm, fold-Arm}
use Rattle.ec_core.specs.declared.Block.{Block, fold-Block}
use Rattle.ec_core.specs.declared.Expression.{Expression, fold-Expression}
use Rattle.ec_core.specs.declared.Expression.TheOpen.{Expression-F, Link-F, Addend-F, Factor-F}
use Rattle.ec_core.specs.declared.Factor.{Factor, fold-Factor}
use Rattle.ec_core.specs.declared.Link.{Link, fold-Link}
use Rattle.ec_core.specs.declared.Operation.{Operation}
use Rattle.ec_core.specs.declared.Statement.{Statement, fold-Statement}
use Rattle.ec_core.specs.declared.Statement.TheOpen.{Statement-F, Arm-F, Block-F}

-- ---- lists

abbrev pub all_of : List ℕ → ℕ
all_of [] = 0
all_of (n ∷ ns) = n + all_of ns

-- each with the operator before it
abbrev pub all_behind : List ℕ → ℕ
all_behind [] = 0
all_behind (n ∷ ns) = (1 + n) + all_behind ns

abbrev pub greatest_of : List ℕ → ℕ
greatest_of [] = 0
greatest_of (n ∷ ns) = max n (greatest_of ns)

-- the heights of arguments, of which the first is worked out where so many values are held
abbrev pub stacked_of : ℕ → List ℕ → ℕ
stacked_of held [] = 0
stacked_of held (n ∷ ns) = max (held + n) (stacked_of (held + 1) ns)

abbrev pub if_there : Option ℕ → ℕ
if_there None = 0
if_there (Some n) = n

-- ---- nodes

abbrev pub expression_size : Expression-F ℕ ℕ ℕ ℕ → ℕ
expression_size (Expression-F.NodeAt x at) = 1 + x
expression_size (Expression-F.NewVector of size at) = 1 + size
expression_size (Expression-F.Create class arguments) = 1 + all_of arguments
expression_size (Expression-F.Chain head links) = head + all_of links
expression_size (Expression-F.Negative x) = 1 + x
expression_size (Expression-F.Not x) = 1 + x
expression_size (Expression-F.View x of at) = 1 + x
expression_size (Expression-F.IsFixed x at) = 1 + x
expression_size (Expression-F.Term first factors) = first + all_of factors
expression_size (Expression-F.Sum first addends) = first + all_of addends
expression_size (Expression-F.Compare left op what right) = 1 + (left + right)
expression_size (Expression-F.And first more) = first + all_behind more
expression_size (Expression-F.Or first more) = first + all_behind more
expression_size _ = 1

abbrev pub link_size : Link-F ℕ ℕ ℕ ℕ → ℕ
link_size (Link-F.Invoke name arguments of at) = 1 + all_of arguments
link_size (Link-F.Call builtin arguments at) = 1 + all_of arguments
link_size (Link-F.Element number of at) = 1 + number

-- of an operator and what it takes to its right
abbrev pub factor_size : Factor-F ℕ ℕ ℕ ℕ → ℕ
factor_size f = 1 + f.value

abbrev pub addend_size : Addend-F ℕ ℕ ℕ ℕ → ℕ
addend_size a = 1 + a.value

abbrev pub size_of : Expression → ℕ
size_of = fold-Expression ℕ ℕ ℕ ℕ expression_size link_size addend_size factor_size

abbrev pub size_of_link : Link → ℕ
size_of_link = fold-Link ℕ ℕ ℕ ℕ expression_size link_size addend_size factor_size

abbrev pub size_of_factor : Factor → ℕ
size_of_factor = fold-Factor ℕ ℕ ℕ ℕ expression_size link_size addend_size factor_size

abbrev pub size_of_addend : Addend → ℕ
size_of_addend = fold-Addend ℕ ℕ ℕ ℕ expression_size link_size addend_size factor_size

abbrev pub size_if : Option Expression → ℕ
size_if None = 0
size_if (Some x) = size_of x

-- A statement counts one, besides what stands in it; an `if` by its arms.
abbrev pub statement_size : Statement-F ℕ ℕ ℕ → ℕ
statement_size (Statement-F.Declare n value) = 1 + size_if value
statement_size (Statement-F.Assign place value) = 1 + size_of value
statement_size (Statement-F.SetElement vector number value at) = 1 + (size_of vector + (size_of number + size_of value))
statement_size (Statement-F.Drop x) = 1 + size_of x
statement_size (Statement-F.Print x) = 1 + size_of x
statement_size (Statement-F.If arms other) = all_of arms + if_there other
statement_size (Statement-F.Loop block) = 1 + block
statement_size (Statement-F.Exit when) = 1 + size_if when
statement_size Statement-F.Return = 1
statement_size (Statement-F.Assert x at) = 1 + size_of x
statement_size (Statement-F.Move x to at) = 1 + (size_of x + size_of to)
statement_size (Statement-F.Fix x to at) = 1 + (size_of x + size_of to)
statement_size (Statement-F.Refix x to at) = 1 + (size_of x + size_of to)
statement_size (Statement-F.Unfix x at) = 1 + size_of x
statement_size (Statement-F.Wait n) = 1
statement_size (Statement-F.Signal n) = 1

abbrev pub arm_size : Arm-F ℕ ℕ ℕ → ℕ
arm_size a = 1 + (size_of a.condition + a.block)

abbrev pub block_size : Block-F ℕ ℕ ℕ → ℕ
block_size b = all_of b.statements

abbrev pub size_of_statement : Statement → ℕ
size_of_statement = fold-Statement ℕ ℕ ℕ statement_size arm_size block_size

abbrev pub size_of_arm : Arm → ℕ
size_of_arm = fold-Arm ℕ ℕ ℕ statement_size arm_size block_size

abbrev pub size_of_block : Block → ℕ
size_of_block = fold-Block ℕ ℕ ℕ statement_size arm_size block_size

-- ---- heights: how many values an expression holds at one time

abbrev pub expression_height : Expression-F ℕ ℕ ℕ ℕ → ℕ
expression_height (Expression-F.NodeAt x at) = x
expression_height (Expression-F.NewVector of size at) = size
-- the values that it captures
expression_height (Expression-F.Construct class places) = max 1 (length places)
expression_height (Expression-F.Create class arguments) = max 1 (stacked_of 0 arguments)
expression_height (Expression-F.Chain head links) = max head (greatest_of links)
expression_height (Expression-F.Negative x) = x
expression_height (Expression-F.Not x) = x
expression_height (Expression-F.View x of at) = x
expression_height (Expression-F.IsFixed x at) = x
expression_height (Expression-F.Term first factors) = max first (greatest_of factors)
expression_height (Expression-F.Sum first addends) = max first (greatest_of addends)
expression_height (Expression-F.Compare left op what right) = max left (1 + right)
expression_height (Expression-F.And first more) = max first (greatest_of more)
expression_height (Expression-F.Or first more) = max first (greatest_of more)
expression_height _ = 1

-- above the value before it
abbrev pub link_height : Link-F ℕ ℕ ℕ ℕ → ℕ
link_height (Link-F.Invoke name arguments of at) = stacked_of 1 arguments
link_height (Link-F.Call builtin arguments at) = stacked_of 1 arguments
link_height (Link-F.Element number of at) = 1 + number

abbrev pub factor_height : Factor-F ℕ ℕ ℕ ℕ → ℕ
factor_height f = 1 + f.value

abbrev pub addend_height : Addend-F ℕ ℕ ℕ ℕ → ℕ
addend_height a = 1 + a.value

abbrev pub height_of : Expression → ℕ
height_of = fold-Expression ℕ ℕ ℕ ℕ expression_height link_height addend_height factor_height

abbrev pub height_of_link : Link → ℕ
height_of_link = fold-Link ℕ ℕ ℕ ℕ expression_height link_height addend_height factor_height

abbrev pub height_of_factor : Factor → ℕ
height_of_factor = fold-Factor ℕ ℕ ℕ ℕ expression_height link_height addend_height factor_height

abbrev pub height_of_addend : Addend → ℕ
height_of_addend = fold-Addend ℕ ℕ ℕ ℕ expression_height link_height addend_height factor_height

abbrev pub height_if : Option Expression → ℕ
height_if None = 0
height_if (Some x) = height_of x

-- Parts one after another; what is moved and where it goes, and vector, index and value, are held together.
abbrev pub statement_height : Statement-F ℕ ℕ ℕ → ℕ
statement_height (Statement-F.Declare n value) = height_if value
statement_height (Statement-F.Assign place value) = height_of value
statement_height (Statement-F.SetElement vector number value at) =
    max (height_of vector) (max (1 + height_of number) (2 + height_of value))
statement_height (Statement-F.Drop x) = height_of x
statement_height (Statement-F.Print x) = height_of x
statement_height (Statement-F.If arms other) = max (greatest_of arms) (if_there other)
statement_height (Statement-F.Loop block) = block
statement_height (Statement-F.Exit when) = height_if when
statement_height Statement-F.Return = 0
statement_height (Statement-F.Assert x at) = height_of x
statement_height (Statement-F.Move x to at) = max (height_of x) (1 + height_of to)
statement_height (Statement-F.Fix x to at) = max (height_of x) (1 + height_of to)
statement_height (Statement-F.Refix x to at) = max (height_of x) (1 + height_of to)
statement_height (Statement-F.Unfix x at) = height_of x
statement_height (Statement-F.Wait n) = 0
statement_height (Statement-F.Signal n) = 0

abbrev pub arm_height : Arm-F ℕ ℕ ℕ → ℕ
arm_height a = max (height_of a.condition) a.block

abbrev pub block_height : Block-F ℕ ℕ ℕ → ℕ
block_height b = greatest_of b.statements

abbrev pub height_of_statement : Statement → ℕ
height_of_statement = fold-Statement ℕ ℕ ℕ statement_height arm_height block_height

abbrev pub height_of_arm : Arm → ℕ
height_of_arm = fold-Arm ℕ ℕ ℕ statement_height arm_height block_height

abbrev pub height_of_block : Block → ℕ
height_of_block = fold-Block ℕ ℕ ℕ statement_height arm_height block_height

-- ---- operations

-- Its block has no more than 4,000 nodes, and its variables and the values that it holds at one time are no more than 100.
pub record IsSmall (o : Operation) : Type 0 where
  pub size : size_of_block o.block ≤ 4000
  pub values : length o.variables + height_of_block o.block ≤ 100
