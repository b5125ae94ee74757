-- What the core drops: it gives a value, or it is a call.
use Rattle.std.specs.Prelude.{◌≡◌, ◌&&◌, ◌||◌, Bool, true, false, is_some, List, [], ◌∷◌, Option, Some, None, All}
use Rattle.ec_core.specs.declared.Arm.{Arm, fold-Arm}
use Rattle.ec_core.specs.declared.Block.{Block, fold-Block}
use Rattle.ec_core.specs.declared.Core.{Core}
use Rattle.ec_core.specs.declared.Expression.{Expression, fold-Expression, out-Expression}
use Rattle.ec_core.specs.declared.Expression.TheOpen.{Expression-F, Link-F, Addend-F, Factor-F}
use Rattle.ec_core.specs.declared.Link.{Link, fold-Link}
use Rattle.ec_core.specs.declared.Operation.{Operation}
use Rattle.ec_core.specs.declared.Statement.{Statement, fold-Statement}
use Rattle.ec_core.specs.declared.Statement.TheOpen.{Statement-F, Arm-F, Block-F}

-- ---- which expressions give a value: all but calls of operations without a result

-- behind what gives a value or not, by the last link
abbrev pub last_gives : Bool → List Bool → Bool
last_gives gives [] = gives
last_gives gives (l ∷ ls) = last_gives l ls

abbrev pub sum_gives : Bool → List Bool → Bool
sum_gives gives [] = gives
sum_gives gives (a ∷ more) = true

abbrev pub expression_gives : Expression-F Bool Bool Bool Bool → Bool
expression_gives (Expression-F.Chain head links) = last_gives head links
expression_gives (Expression-F.Sum first addends) = sum_gives first addends
expression_gives _ = true

abbrev pub link_gives : Link-F Bool Bool Bool Bool → Bool
link_gives (Link-F.Invoke name arguments result at) = is_some result
link_gives (Link-F.Call builtin arguments at) = true
link_gives (Link-F.Element number of at) = true

abbrev pub addend_gives : Addend-F Bool Bool Bool Bool → Bool
addend_gives a = a.value

abbrev pub factor_gives : Factor-F Bool Bool Bool Bool → Bool
factor_gives f = f.value

abbrev pub gives_value : Expression → Bool
gives_value = fold-Expression Bool Bool Bool Bool expression_gives link_gives addend_gives factor_gives

abbrev pub link_gives_value : Link → Bool
link_gives_value = fold-Link Bool Bool Bool Bool expression_gives link_gives addend_gives factor_gives

-- ---- what is dropped

abbrev pub are_some : {A : Type 0} → List A → Bool
are_some [] = false
are_some (x ∷ xs) = true

-- a chain with a link behind its head
abbrev pub has_link : {X L A F : Type 0} → Expression-F X L A F → Bool
has_link (Expression-F.Chain head links) = are_some links
has_link _ = false

abbrev pub may_be_dropped : Expression → Bool
may_be_dropped x = gives_value x || has_link (out-Expression x)

-- ---- statements

abbrev pub all_drop : List Bool → Bool
all_drop [] = true
all_drop (b ∷ bs) = b && all_drop bs

abbrev pub drops_if : Option Bool → Bool
drops_if None = true
drops_if (Some b) = b

-- Whether each expression that a statement drops is such a one.
abbrev pub statement_drops : Statement-F Bool Bool Bool → Bool
statement_drops (Statement-F.Drop x) = may_be_dropped x
statement_drops (Statement-F.If arms other) = all_drop arms && drops_if other
statement_drops (Statement-F.Loop block) = block
statement_drops _ = true

abbrev pub arm_drops : Arm-F Bool Bool Bool → Bool
arm_drops a = a.block

abbrev pub block_drops : Block-F Bool Bool Bool → Bool
block_drops b = all_drop b.statements

abbrev pub drops_statement : Statement → Bool
drops_statement = fold-Statement Bool Bool Bool statement_drops arm_drops block_drops

abbrev pub drops_arm : Arm → Bool
drops_arm = fold-Arm Bool Bool Bool statement_drops arm_drops block_drops

abbrev pub drops_block : Block → Bool
drops_block = fold-Block Bool Bool Bool statement_drops arm_drops block_drops

-- the same of each operation
abbrev pub DropsCalls : Core → Type 0
DropsCalls core = All (λ (o : Operation). drops_block o.block ≡ true) core.operations
