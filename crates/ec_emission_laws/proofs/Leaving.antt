-- The code of a block leaves a loop around it only where the block does.
use Rattle.std.proofs.Common.{◌≡◌, ℕ, Bool, true, false, ◌||◌, List, [], ◌∷◌, map, Option, Some, None, refl, sym, ap, ap₂, ◌∙◌, subst}
use Rattle.ec_code.specs.declared.code.Op.{Op}
use Rattle.ec_types.specs.declared.conform.static_type.StaticType.{StaticType}
use Rattle.ec_core.specs.declared.Arm.{Arm, roll-Arm, map-Arm, fold-Arm, fold-roll-Arm}
use Rattle.ec_core.specs.declared.Block.{Block, roll-Block, map-Block, fold-roll-Block, ind-Block}
use Rattle.ec_core.specs.declared.Statement.{Statement, roll-Statement, map-Statement, fold-roll-Statement}
use Rattle.ec_core.specs.declared.Statement.TheOpen.{Statement-F, Arm-F, Block-F}
use Rattle.ec_core_laws.specs.Exits.{some_leave, leaves_if, statement_leaves, arm_leaves, block_leaves}
use Rattle.ec_core_laws.specs.Exits.{leaves_statement, leaves_arm, leaves_block}
use Rattle.ec_emission.specs.Statements.{Done, Choice, some_exit, some_choice_exits, statement_code, choice_code, block_code, done_of}
use Rattle.ec_emission.specs.Statements.{block_of}
use Rattle.ec_meaning.specs.Programs.{Source}

or_within : (a b c : Bool) → a || (b || c) ≡ (a || b) || c
or_within true b c = refl
or_within false b c = refl

module _ (s : Source) (captured : ℕ) (types : List StaticType) (literals : List (List ℕ)) (leaves : List Op) where
  abbrev of_statement_layer : Statement-F Done Choice Done → Done
  of_statement_layer = statement_code s captured types literals leaves

  abbrev of_arm_layer : Arm-F Done Choice Done → Choice
  of_arm_layer = choice_code s captured types literals leaves

  abbrev of_block_layer : Block-F Done Choice Done → Done
  of_block_layer = block_code s captured types literals leaves

  abbrev of_statement : Statement → Done
  of_statement = done_of s captured types literals leaves

  abbrev of_arm : Arm → Choice
  of_arm = fold-Arm Done Choice Done of_statement_layer of_arm_layer of_block_layer

  abbrev of_block : Block → Done
  of_block = block_of s captured types literals leaves

  abbrev StatementLeaves : Statement → Type 0
  StatementLeaves x = (of_statement x).exits ≡ leaves_statement x

  abbrev ArmLeaves : Arm → Type 0
  ArmLeaves x = (of_arm x).block.exits ≡ leaves_arm x

  abbrev BlockLeaves : Block → Type 0
  BlockLeaves x = (of_block x).exits ≡ leaves_block x

  abbrev StatementHeld : Type 0
  StatementHeld = (x : Statement) × StatementLeaves x

  abbrev ArmHeld : Type 0
  ArmHeld = (x : Arm) × ArmLeaves x

  abbrev BlockHeld : Type 0
  BlockHeld = (x : Block) × BlockLeaves x

  abbrev bare_s : StatementHeld → Statement
  bare_s x = x.0

  abbrev bare_a : ArmHeld → Arm
  bare_a x = x.0

  abbrev bare_b : BlockHeld → Block
  bare_b x = x.0

  abbrev bare_statement : Statement-F StatementHeld ArmHeld BlockHeld → Statement-F Statement Arm Block
  bare_statement = map-Statement StatementHeld ArmHeld BlockHeld Statement Arm Block bare_s bare_a bare_b

  abbrev bare_arm : Arm-F StatementHeld ArmHeld BlockHeld → Arm-F Statement Arm Block
  bare_arm = map-Arm StatementHeld ArmHeld BlockHeld Statement Arm Block bare_s bare_a bare_b

  abbrev bare_block : Block-F StatementHeld ArmHeld BlockHeld → Block-F Statement Arm Block
  bare_block = map-Block StatementHeld ArmHeld BlockHeld Statement Arm Block bare_s bare_a bare_b

  abbrev coded : Statement-F Statement Arm Block → Statement-F Done Choice Done
  coded = map-Statement Statement Arm Block Done Choice Done of_statement of_arm of_block

  abbrev left : Statement-F Statement Arm Block → Statement-F Bool Bool Bool
  left = map-Statement Statement Arm Block Bool Bool Bool leaves_statement leaves_arm leaves_block

  -- ---- lists of parts

  some_exits : (xs : List StatementHeld) →
      some_exit (map of_statement (map bare_s xs)) ≡ some_leave (map leaves_statement (map bare_s xs))
  some_exits [] = refl
  some_exits (x ∷ xs) = ap₂ (λ a b. a || b) x.1 (some_exits xs)

  arms_exit : (xs : List ArmHeld) (other : Option Done) (o : Option Bool) → some_choice_exits [] other ≡ leaves_if o →
      some_choice_exits (map of_arm (map bare_a xs)) other ≡ some_leave (map leaves_arm (map bare_a xs)) || leaves_if o
  arms_exit [] other o e = e
  arms_exit (x ∷ xs) other o e =
      ap₂ (λ a b. a || b) x.1 (arms_exit xs other o e)
      ∙ or_within (leaves_arm x.0) (some_leave (map leaves_arm (map bare_a xs))) (leaves_if o)

  -- ---- one layer

  layer : (y : Statement-F StatementHeld ArmHeld BlockHeld) →
      (of_statement_layer (coded (bare_statement y))).exits ≡ statement_leaves (left (bare_statement y))
  layer (Statement-F.If arms None) = arms_exit arms None None refl
  layer (Statement-F.If arms (Some b)) = arms_exit arms (Some (of_block b.0)) (Some (leaves_block b.0)) b.1
  layer (Statement-F.Declare n None) = refl
  layer (Statement-F.Declare n (Some x)) = refl
  layer (Statement-F.Exit None) = refl
  layer (Statement-F.Exit (Some x)) = refl
  layer _ = refl

  -- ---- the induction

  statement_from : (x : Statement-F Statement Arm Block) (y : Statement-F StatementHeld ArmHeld BlockHeld) → bare_statement y ≡ x →
      StatementLeaves (roll-Statement x)
  statement_from x y is =
      subst (λ z. StatementLeaves (roll-Statement z)) is
      (ap (λ (d : Done). d.exits) (fold-roll-Statement Done Choice Done of_statement_layer of_arm_layer of_block_layer (bare_statement y))
      ∙ layer y
      ∙ sym (fold-roll-Statement Bool Bool Bool statement_leaves arm_leaves block_leaves (bare_statement y)))

  arm_from : (x : Arm-F Statement Arm Block) (y : Arm-F StatementHeld ArmHeld BlockHeld) → bare_arm y ≡ x → ArmLeaves (roll-Arm x)
  arm_from x y is =
      subst (λ z. ArmLeaves (roll-Arm z)) is
      (ap (λ (c : Choice). c.block.exits) (fold-roll-Arm Done Choice Done of_statement_layer of_arm_layer of_block_layer (bare_arm y))
      ∙ y.block.1
      ∙ sym (fold-roll-Arm Bool Bool Bool statement_leaves arm_leaves block_leaves (bare_arm y)))

  block_from : (x : Block-F Statement Arm Block) (y : Block-F StatementHeld ArmHeld BlockHeld) → bare_block y ≡ x →
      BlockLeaves (roll-Block x)
  block_from x y is =
      subst (λ z. BlockLeaves (roll-Block z)) is
      (ap (λ (d : Done). d.exits) (fold-roll-Block Done Choice Done of_statement_layer of_arm_layer of_block_layer (bare_block y))
      ∙ some_exits y.statements
      ∙ sym (fold-roll-Block Bool Bool Bool statement_leaves arm_leaves block_leaves (bare_block y)))

  pub exits_as_left : (b : Block) → (block_of s captured types literals leaves b).exits ≡ leaves_block b
  exits_as_left = ind-Block StatementLeaves ArmLeaves BlockLeaves statement_from arm_from block_from
