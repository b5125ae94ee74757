-- The code of statements enters nowhere, and ends a process only at the end of the operation.
use Rattle.std.proofs.Common.{◌≡◌, ◌+◌, ℕ, zero, suc, List, [], ◌∷◌, ◌++◌, length, map, Option, Some, None, refl, sym, subst}
use Rattle.std.specs.List.{AllByRecursion as Each}
use Rattle.std.specs.Prelude.{slice_get}
use Rattle.ec_code.specs.declared.code.Op.{Op}
use Rattle.ec_code.specs.declared.code.Op.TheVariants as op
use Rattle.ec_code.specs.declared.code.Operand.{Operand}
use Rattle.ec_code.specs.declared.code.StopRow.{StopRow}
use Rattle.ec_core.specs.declared.Arm.{Arm, roll-Arm, map-Arm, fold-Arm, fold-roll-Arm}
use Rattle.ec_core.specs.declared.Block.{Block, roll-Block, map-Block, fold-roll-Block, ind-Block}
use Rattle.ec_core.specs.declared.Expression.{Expression}
use Rattle.ec_core.specs.declared.Place.{Place}
use Rattle.ec_core.specs.declared.Place.TheVariants as place
use Rattle.ec_core.specs.declared.Statement.{Statement, roll-Statement, map-Statement, fold-roll-Statement}
use Rattle.ec_core.specs.declared.Statement.TheOpen.{Statement-F, Arm-F, Block-F}
use Rattle.ec_emission.specs.Expressions.{Emitted, all_code, operand_code, operand_of}
use Rattle.ec_emission.specs.Statements.{Choice, Done, arm_code, arms_code, block_code, block_of, choice_code, defaults_from, done_of, given}
use Rattle.ec_emission.specs.Statements.{in_order, jump_over, loop_code, statement_code, store, unless, value_of}
use Rattle.ec_meaning.specs.Programs.{Source}
use Rattle.ec_meaning.specs.Steps.{default_if}
use Rattle.ec_meaning.specs.Types.{kind_of}
use Rattle.ec_types.specs.declared.conform.static_type.StaticType.{StaticType}
use Rattle.ec_world.specs.declared.class.ClassRec.{ClassRec}
use Rattle.ec_world.specs.declared.value.ValueType.{ValueType}
use Rattle.ec_world.specs.declared.value.ValueType.TheVariants as kind
use Rattle.ec_world.specs.Values.{default_of}
use Rattle.ec_reached.proofs.EmittedFits.{Fit, FitEmitted, all_fit, both, is_fit, operand_fit, plain}
use Rattle.ec_reached.specs.Code.{StopFits}

module _ (classes : List ClassRec) (number : ℕ) where
  abbrev Fits : List Op → Type 0
  Fits = Fit classes number

  and : (xs ys : List Op) → Fits xs → Fits ys → Fits (xs ++ ys)
  and xs ys h k = both classes number xs ys h k

  -- ---- what is shown of each part

  abbrev pub FitDone : Done → Type 0
  FitDone d = (left : ℕ) → Fits (d.code left)

  record FitChoice (a : Choice) : Type 0 where
    pub condition : Fits a.condition.code
    pub block : FitDone a.block

  jump_fit : (n : ℕ) → Fits (jump_over n)
  jump_fit zero = tt
  jump_fit (suc n) = (tt, tt)

  in_order_fit : (ds : List Done) → Each FitDone ds → (left : ℕ) → Fits (in_order ds left)
  in_order_fit [] k left = tt
  in_order_fit (d ∷ ds) k left =
      let rest : List Op = in_order ds left in
      and (d.code (length rest + left)) rest (k.0 (length rest + left)) (in_order_fit ds k.1 left)

  arm_fit : (a : Choice) (rest : List Op) (left : ℕ) → FitChoice a → Fits rest → Fits (arm_code a rest left)
  arm_fit a rest left k r =
      let over : List Op = jump_over (length rest) in
      let block : List Op = a.block.code (length over + (length rest + left)) in
      and a.condition.code (unless a.condition (length block + length over) ∷ (block ++ (over ++ rest))) k.condition
      (tt, and block (over ++ rest) (k.block (length over + (length rest + left))) (and over rest (jump_fit (length rest)) r))

  abbrev FitIf : Option Done → Type 0
  FitIf None = Unit {0}
  FitIf (Some d) = FitDone d

  arms_fit : (arms : List Choice) (other : Option Done) → Each FitChoice arms → FitIf other → (left : ℕ) → Fits (arms_code arms other left)
  arms_fit [] None k o left = tt
  arms_fit [] (Some other) k o left = o left
  arms_fit (a ∷ arms) other k o left = arm_fit a (arms_code arms other left) left k.0 (arms_fit arms other k.1 o left)

  loop_fit : (body : Done) → FitDone body → Fits (loop_code body)
  loop_fit body k =
      (plain classes number _ refl refl, and (body.code 1) (op.Again (suc (length (body.code 1))) ∷ []) (k 1) (tt, tt))

  -- `leaves` is the code of the end of the operation.
  module _ (s : Source) (captured : ℕ) (types : List StaticType) (literals : List (List ℕ)) (leaves : List Op) (ends : Fits leaves) where
    -- ---- defaults

    kind_fit : (n : ℕ) (k : ValueType) → Fits (given s captured types literals leaves n (default_of k))
    kind_fit n kind.Integer = (tt, tt)
    kind_fit n kind.Boolean = (tt, tt)
    kind_fit n kind.Bytes = (tt, tt)
    kind_fit n kind.Reference = (tt, tt)

    default_fit : (n : ℕ) (of : Option StaticType) → Fits (given s captured types literals leaves n (default_if of))
    default_fit n None = (tt, tt)
    default_fit n (Some of) = kind_fit n (kind_of of)

    pub defaults_fit : (n : ℕ) (ts : List StaticType) → Fits (defaults_from s captured types literals leaves n ts)
    defaults_fit n [] = tt
    defaults_fit n (t ∷ ts) =
        and (given s captured types literals leaves n (default_of (kind_of t))) (defaults_from s captured types literals leaves (suc n) ts)
        (kind_fit n (kind_of t)) (defaults_fit (suc n) ts)

    -- ---- expressions

    abbrev here : Expression → Emitted
    here = value_of s captured types literals leaves

    fit : (x : Expression) → FitEmitted classes number (here x)
    fit = is_fit classes number s captured (length types) literals

    store_fit : (p : Place) (from : Operand) → Fits (store s captured types literals leaves p from)
    store_fit (place.Variable n) from = (tt, tt)
    store_fit (place.Field n) from = (tt, tt)
    store_fit (place.Captured n) from = tt
    store_fit (place.Constant n) from = tt

    stored_fit : (p : Place) (x : Expression) →
        Fits (operand_code (here x) 0 ++ store s captured types literals leaves p (operand_of (here x) 0))
    stored_fit p x =
        and (operand_code (here x) 0) (store s captured types literals leaves p (operand_of (here x) 0))
        (operand_fit classes number (here x) (fit x) 0) (store_fit p (operand_of (here x) 0))

    -- values, and a stop that takes them
    stop_fit : (xs : List Expression) (row : StopRow) → StopFits classes number row.stop → Each (FitEmitted classes number) (map here xs) →
        Fits (all_code (map here xs) 0 ++ op.Rest row ∷ [])
    stop_fit xs row e k =
        and (all_code (map here xs) 0) (op.Rest row ∷ []) (all_fit classes number (map here xs) k 0) (e, tt)

    -- ---- parts

    abbrev of_layer : Statement-F Done Choice Done → Done
    of_layer = statement_code s captured types literals leaves

    abbrev of_arm_layer : Arm-F Done Choice Done → Choice
    of_arm_layer = choice_code s captured types literals leaves

    abbrev of_block_layer : Block-F Done Choice Done → Done
    of_block_layer = block_code s captured types literals leaves

    abbrev of_statement : Statement → Done
    of_statement = done_of s captured types literals leaves

    abbrev of_arm : Arm → Choice
    of_arm = fold-Arm Done Choice Done of_layer of_arm_layer of_block_layer

    abbrev of_block : Block → Done
    of_block = block_of s captured types literals leaves

    abbrev StatementIs : Statement → Type 0
    StatementIs x = FitDone (of_statement x)

    abbrev ArmIs : Arm → Type 0
    ArmIs x = FitChoice (of_arm x)

    abbrev BlockIs : Block → Type 0
    BlockIs x = FitDone (of_block x)

    abbrev StatementHeld : Type 0
    StatementHeld = (x : Statement) × StatementIs x

    abbrev ArmHeld : Type 0
    ArmHeld = (x : Arm) × ArmIs x

    abbrev BlockHeld : Type 0
    BlockHeld = (x : Block) × BlockIs x

    abbrev bare_s : StatementHeld → Statement
    bare_s x = x.0

    abbrev bare_a : ArmHeld → Arm
    bare_a x = x.0

    abbrev bare_b : BlockHeld → Block
    bare_b x = x.0

    abbrev bare_statement : Statement-F StatementHeld ArmHeld BlockHeld → Statement-F Statement Arm Block
    bare_statement = map-Statement StatementHeld ArmHeld BlockHeld Statement Arm Block bare_s bare_a bare_b

    abbrev bare_arm : Arm-F StatementHeld ArmHeld BlockHeld → Arm-F Statement Arm Block
    bare_arm = map-Arm StatementHeld ArmHeld BlockHeld Statement Arm Block bare_s bare_a bare_b

    abbrev bare_block : Block-F StatementHeld ArmHeld BlockHeld → Block-F Statement Arm Block
    bare_block = map-Block StatementHeld ArmHeld BlockHeld Statement Arm Block bare_s bare_a bare_b

    abbrev coded : Statement-F Statement Arm Block → Statement-F Done Choice Done
    coded = map-Statement Statement Arm Block Done Choice Done of_statement of_arm of_block

    statements_fit : (xs : List StatementHeld) → Each FitDone (map of_statement (map bare_s xs))
    statements_fit [] = tt
    statements_fit (x ∷ xs) = (x.1, statements_fit xs)

    choices_fit : (xs : List ArmHeld) → Each FitChoice (map of_arm (map bare_a xs))
    choices_fit [] = tt
    choices_fit (x ∷ xs) = (x.1, choices_fit xs)

    -- ---- one layer

    layer : (y : Statement-F StatementHeld ArmHeld BlockHeld) → FitDone (of_layer (coded (bare_statement y)))
    layer (Statement-F.Declare v None) left = default_fit v (slice_get types v)
    layer (Statement-F.Declare v (Some x)) left = stored_fit (place.Variable v) x
    layer (Statement-F.Assign p x) left = stored_fit p x
    layer (Statement-F.SetElement x y z at) left =
        stop_fit (x ∷ y ∷ z ∷ []) _ (plain classes number _ refl refl) (fit x, (fit y, (fit z, tt)))
    layer (Statement-F.Drop x) left = let k = fit x in k.code 0
    layer (Statement-F.Print x) left = stop_fit (x ∷ []) _ (plain classes number _ refl refl) (fit x, tt)
    layer (Statement-F.If arms None) left = arms_fit (map of_arm (map bare_a arms)) None (choices_fit arms) tt left
    layer (Statement-F.If arms (Some b)) left = arms_fit (map of_arm (map bare_a arms)) (Some (of_block b.0)) (choices_fit arms) b.1 left
    layer (Statement-F.Loop b) left = loop_fit (of_block b.0) b.1
    layer (Statement-F.Exit None) left = (tt, tt)
    layer (Statement-F.Exit (Some x)) left = let k = fit x in and ((here x).condition 0).code _ (k.condition 0) (tt, tt)
    layer Statement-F.Return left = ends
    layer (Statement-F.Assert x at) left =
        let k = fit x in and ((here x).condition 0).code _ (k.condition 0) (tt, (plain classes number _ refl refl, tt))
    layer (Statement-F.Move x y at) left = stop_fit (x ∷ y ∷ []) _ (plain classes number _ refl refl) (fit x, (fit y, tt))
    layer (Statement-F.Fix x y at) left = stop_fit (x ∷ y ∷ []) _ (plain classes number _ refl refl) (fit x, (fit y, tt))
    layer (Statement-F.Refix x y at) left = stop_fit (x ∷ y ∷ []) _ (plain classes number _ refl refl) (fit x, (fit y, tt))
    layer (Statement-F.Unfix x at) left = stop_fit (x ∷ []) _ (plain classes number _ refl refl) (fit x, tt)
    layer (Statement-F.Wait c) left = (plain classes number _ refl refl, tt)
    layer (Statement-F.Signal c) left = (plain classes number _ refl refl, tt)

    -- ---- the induction

    statement_from : (x : Statement-F Statement Arm Block) (y : Statement-F StatementHeld ArmHeld BlockHeld) → bare_statement y ≡ x →
        StatementIs (roll-Statement x)
    statement_from x y is =
        subst (λ z. StatementIs (roll-Statement z)) is
        (subst FitDone (sym (fold-roll-Statement Done Choice Done of_layer of_arm_layer of_block_layer (bare_statement y))) (layer y))

    arm_from : (x : Arm-F Statement Arm Block) (y : Arm-F StatementHeld ArmHeld BlockHeld) → bare_arm y ≡ x → ArmIs (roll-Arm x)
    arm_from x y is =
        subst (λ z. ArmIs (roll-Arm z)) is
        (let k = fit y.condition in
        subst FitChoice (sym (fold-roll-Arm Done Choice Done of_layer of_arm_layer of_block_layer (bare_arm y)))
        (record { condition = k.condition 0; block = y.block.1 }))

    block_from : (x : Block-F Statement Arm Block) (y : Block-F StatementHeld ArmHeld BlockHeld) → bare_block y ≡ x → BlockIs (roll-Block x)
    block_from x y is =
        subst (λ z. BlockIs (roll-Block z)) is
        (subst FitDone (sym (fold-roll-Block Done Choice Done of_layer of_arm_layer of_block_layer (bare_block y)))
        (in_order_fit (map of_statement (map bare_s y.statements)) (statements_fit y.statements)))

    pub block_fit : (b : Block) → FitDone (block_of s captured types literals leaves b)
    block_fit = ind-Block StatementIs ArmIs BlockIs statement_from arm_from block_from
