-- Each `exit` stands in a loop of its own operation.
use Rattle.std.specs.Prelude.{◌||◌, Bool, true, false, List, [], ◌∷◌, Option, Some, None}
use Rattle.ec_core.specs.declared.Arm.{Arm, fold-Arm}
use Rattle.ec_core.specs.declared.Block.{Block, fold-Block}
use Rattle.ec_core.specs.declared.Statement.{Statement, fold-Statement}
use Rattle.ec_core.specs.declared.Statement.TheOpen.{Statement-F, Arm-F, Block-F}

abbrev pub some_leave : List Bool → Bool
some_leave [] = false
some_leave (b ∷ bs) = b || some_leave bs

abbrev pub leaves_if : Option Bool → Bool
leaves_if None = false
leaves_if (Some b) = b

-- Whether an `exit` in a statement would leave a loop around it. One in a loop of its own leaves that one.
abbrev pub statement_leaves : Statement-F Bool Bool Bool → Bool
statement_leaves (Statement-F.If arms other) = some_leave arms || leaves_if other
statement_leaves (Statement-F.Exit when) = true
statement_leaves _ = false

abbrev pub arm_leaves : Arm-F Bool Bool Bool → Bool
arm_leaves a = a.block

abbrev pub block_leaves : Block-F Bool Bool Bool → Bool
block_leaves b = some_leave b.statements

abbrev pub leaves_statement : Statement → Bool
leaves_statement = fold-Statement Bool Bool Bool statement_leaves arm_leaves block_leaves

abbrev pub leaves_arm : Arm → Bool
leaves_arm = fold-Arm Bool Bool Bool statement_leaves arm_leaves block_leaves

abbrev pub leaves_block : Block → Bool
leaves_block = fold-Block Bool Bool Bool statement_leaves arm_leaves block_leaves
