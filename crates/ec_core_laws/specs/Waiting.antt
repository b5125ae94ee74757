-- Only operations of monitored objects wait and signal, on conditions of their own; no process section does.
use Rattle.std.specs.Prelude.{◌≡◌, ℕ, ◌<◌, true, List, [], ◌∷◌, ◌++◌, Option, Some, None, All, Any}
use Rattle.ec_core.specs.declared.Arm.{Arm, fold-Arm}
use Rattle.ec_core.specs.declared.Block.{Block, fold-Block}
use Rattle.ec_core.specs.declared.Class.{Class}
use Rattle.ec_core.specs.declared.Kind.{Kind}
use Rattle.ec_core.specs.declared.Kind.TheVariants as kind
use Rattle.ec_core.specs.declared.Operation.{Operation}
use Rattle.ec_core.specs.declared.Statement.{Statement, fold-Statement}
use Rattle.ec_core.specs.declared.Statement.TheOpen.{Statement-F, Arm-F, Block-F}

abbrev pub all_of : List (List ℕ) → List ℕ
all_of [] = []
all_of (ns ∷ more) = ns ++ all_of more

abbrev pub those_of : Option (List ℕ) → List ℕ
those_of None = []
those_of (Some ns) = ns

-- the numbers of the conditions on which a statement waits or which it signals
abbrev pub statement_conditions : Statement-F (List ℕ) (List ℕ) (List ℕ) → List ℕ
statement_conditions (Statement-F.If arms other) = all_of arms ++ those_of other
statement_conditions (Statement-F.Loop block) = block
statement_conditions (Statement-F.Wait n) = n ∷ []
statement_conditions (Statement-F.Signal n) = n ∷ []
statement_conditions _ = []

abbrev pub arm_conditions : Arm-F (List ℕ) (List ℕ) (List ℕ) → List ℕ
arm_conditions a = a.block

abbrev pub block_conditions : Block-F (List ℕ) (List ℕ) (List ℕ) → List ℕ
block_conditions b = all_of b.statements

abbrev pub conditions_of_statement : Statement → List ℕ
conditions_of_statement = fold-Statement (List ℕ) (List ℕ) (List ℕ) statement_conditions arm_conditions block_conditions

abbrev pub conditions_of_arm : Arm → List ℕ
conditions_of_arm = fold-Arm (List ℕ) (List ℕ) (List ℕ) statement_conditions arm_conditions block_conditions

abbrev pub conditions_of_block : Block → List ℕ
conditions_of_block = fold-Block (List ℕ) (List ℕ) (List ℕ) statement_conditions arm_conditions block_conditions

-- an operation by its name or operation 0
abbrev pub IsNoProcess : Kind → Type 0
IsNoProcess kind.Named = Unit {0}
IsNoProcess kind.Initial = Unit {0}
IsNoProcess kind.Process = ⊥

-- An operation of this kind may use the condition with this number of its class.
pub record MayUse (kind : Kind) (class : Class) (n : ℕ) : Type 0 where
  pub is_no_process : IsNoProcess kind
  pub is_monitored : class.is_monitored ≡ true
  pub is_there : n < class.conditions

-- It is one of some class of the program, and may use there each condition that it uses.
abbrev pub UsesItsConditions : List Class → Operation → Type 0
UsesItsConditions classes o =
    Any (λ (c : Class). (c.number ≡ o.class) × All (MayUse o.kind c) (conditions_of_block o.block)) classes
