-- The code of an operation makes vectors of allowed types alone, where each type of which its block makes vectors is allowed.
use Rattle.std.proofs.Common.{◌≡◌, ℕ, zero, suc, ◌+◌, List, [], ◌∷◌, ◌++◌, length, map, Option, Some, None, sym, subst}
use Rattle.std.proofs.Common.{slice_get}
use Rattle.ec_code.specs.declared.code.Op.{Op}
use Rattle.ec_code.specs.declared.code.Op.TheVariants as op
use Rattle.ec_code.specs.declared.code.Operand.{Operand}
use Rattle.ec_code.specs.declared.code.StopRow.{StopRow}
use Rattle.ec_types.specs.declared.conform.static_type.StaticType.{StaticType}
use Rattle.ec_core.specs.declared.Arm.{Arm, roll-Arm, map-Arm, fold-Arm, fold-roll-Arm}
use Rattle.ec_core.specs.declared.Block.{Block, roll-Block, map-Block, fold-roll-Block, ind-Block}
use Rattle.ec_core.specs.declared.Expression.{Expression}
use Rattle.ec_core.specs.declared.Place.{Place}
use Rattle.ec_core.specs.declared.Place.TheVariants as place
use Rattle.ec_core.specs.declared.Statement.{Statement, roll-Statement, map-Statement, fold-roll-Statement}
use Rattle.ec_core.specs.declared.Statement.TheOpen.{Statement-F, Arm-F, Block-F}
use Rattle.ec_emission.specs.Expressions.{Emitted, all_code, operand_code, operand_of}
use Rattle.ec_emission.specs.Statements.{Choice, Done, arm_code, arms_code, block_code, block_of, choice_code, defaults_from, done_of}
use Rattle.ec_emission.specs.Statements.{given, in_order}
use Rattle.ec_emission.specs.Statements.{jump_over, loop_code, statement_code, store, unless, value_of}
use Rattle.ec_meaning.specs.Programs.{Source}
use Rattle.ec_meaning.specs.Steps.{default_if}
use Rattle.ec_meaning.specs.Types.{kind_of}
use Rattle.ec_world.specs.Values.{default_of}
use Rattle.ec_world.specs.declared.value.ValueType.{ValueType}
use Rattle.ec_world.specs.declared.value.ValueType.TheVariants as kind
use Rattle.ec_check.proofs.Every.{Every}
use Rattle.ec_vector_types.proofs.CoreMade.{Types, joined, arm_made, block_made, statement_made}
use Rattle.ec_vector_types.proofs.CoreMade.{made_of, made_of_arm, made_of_block, made_of_statement}
use Rattle.ec_vector_types.proofs.Emitting as emitting
use Rattle.ec_vector_types.proofs.Emitting.{AllowedStop, EmittedIs, all_are, both, expression_is, of_first, of_rest, operand_is}
use Rattle.ec_world.specs.declared.class.VectorType.{VectorType}

-- These types are allowed.
module _ (W : VectorType → Type 0) where
  abbrev Allowed : List Op → Type 0
  Allowed ops = emitting.Allowed W ops

  abbrev AllAllowed : Types → Type 0
  AllAllowed ts = emitting.AllAllowed W ts

  -- ---- what is shown of each part

  abbrev pub DoneIs : Done → Type 0
  DoneIs d = (left : ℕ) → Allowed (d.code left)

  record ChoiceIs (a : Choice) : Type 0 where
    pub condition : Allowed a.condition.code
    pub block : DoneIs a.block

  jump_is : (n : ℕ) → Allowed (jump_over n)
  jump_is zero = tt
  jump_is (suc n) = (tt, tt)

  in_order_is : (ds : List Done) → Every DoneIs ds → (left : ℕ) → Allowed (in_order ds left)
  in_order_is [] k left = tt
  in_order_is (d ∷ ds) k left =
      let rest : List Op = in_order ds left in
      both W (d.code (length rest + left)) rest (k.0 (length rest + left)) (in_order_is ds k.1 left)

  arm_is : (a : Choice) (rest : List Op) (left : ℕ) → ChoiceIs a → Allowed rest → Allowed (arm_code a rest left)
  arm_is a rest left k r =
      let over : List Op = jump_over (length rest) in
      let block : List Op = a.block.code (length over + (length rest + left)) in
      both W a.condition.code (unless a.condition (length block + length over) ∷ (block ++ (over ++ rest))) k.condition
      (tt, both W block (over ++ rest) (k.block (length over + (length rest + left))) (both W over rest (jump_is (length rest)) r))

  abbrev IfIs : Option Done → Type 0
  IfIs None = Unit {0}
  IfIs (Some d) = DoneIs d

  arms_are : (arms : List Choice) (other : Option Done) → Every ChoiceIs arms → IfIs other → (left : ℕ)
      → Allowed (arms_code arms other left)
  arms_are [] None k o left = tt
  arms_are [] (Some other) k o left = o left
  arms_are (a ∷ arms) other k o left = arm_is a (arms_code arms other left) left k.0 (arms_are arms other k.1 o left)

  loop_is : (body : Done) → DoneIs body → Allowed (loop_code body)
  loop_is body k = (tt, both W (body.code 1) (op.Again (suc (length (body.code 1))) ∷ []) (k 1) (tt, tt))

  -- The code is of an operation with variables of these types, of objects whose class captures so many names; `leaves` is the
  -- code of its end.
  module _ (s : Source) (captured : ℕ) (types : List StaticType) (literals : List (List ℕ)) (leaves : List Op) (ends : Allowed leaves) where
    -- ---- defaults

    kind_is : (n : ℕ) (k : ValueType) → Allowed (given s captured types literals leaves n (default_of k))
    kind_is n kind.Integer = (tt, tt)
    kind_is n kind.Boolean = (tt, tt)
    kind_is n kind.Bytes = (tt, tt)
    kind_is n kind.Reference = (tt, tt)

    default_is : (n : ℕ) (of : Option StaticType) → Allowed (given s captured types literals leaves n (default_if of))
    default_is n None = (tt, tt)
    default_is n (Some of) = kind_is n (kind_of of)

    pub defaults_are : (n : ℕ) (ts : List StaticType) → Allowed (defaults_from s captured types literals leaves n ts)
    defaults_are n [] = tt
    defaults_are n (t ∷ ts) =
        both W (given s captured types literals leaves n (default_of (kind_of t))) (defaults_from s captured types literals leaves (suc n) ts)
        (kind_is n (kind_of t)) (defaults_are (suc n) ts)

    -- ---- expressions

    abbrev here : Expression → Emitted
    here = value_of s captured types literals leaves

    value_is : (x : Expression) → AllAllowed (made_of x) → EmittedIs W (here x)
    value_is = expression_is W s captured (length types) literals

    store_is : (p : Place) (from : Operand) → Allowed (store s captured types literals leaves p from)
    store_is (place.Variable n) from = (tt, tt)
    store_is (place.Field n) from = (tt, tt)
    store_is (place.Captured n) from = tt
    store_is (place.Constant n) from = tt

    stored_is : (p : Place) (x : Expression) → AllAllowed (made_of x)
        → Allowed (operand_code (here x) 0 ++ store s captured types literals leaves p (operand_of (here x) 0))
    stored_is p x n =
        both W (operand_code (here x) 0) (store s captured types literals leaves p (operand_of (here x) 0))
        (operand_is W (here x) (value_is x n) 0) (store_is p (operand_of (here x) 0))

    -- values, and a stop that takes them
    stop_is : (xs : List Expression) (row : StopRow) → AllowedStop W row.stop → Every (EmittedIs W) (map here xs) →
        Allowed (all_code (map here xs) 0 ++ op.Rest row ∷ [])
    stop_is xs row a k = both W (all_code (map here xs) 0) (op.Rest row ∷ []) (all_are W (map here xs) k 0) (a, tt)

    two_are : (x y : Expression) → AllAllowed (made_of x ++ made_of y) → Every (EmittedIs W) (map here (x ∷ y ∷ []))
    two_are x y n =
        (value_is x (of_first W (made_of x) (made_of y) n), (value_is y (of_rest W (made_of x) (made_of y) n), tt))

    -- ---- parts

    abbrev of_layer : Statement-F Done Choice Done → Done
    of_layer = statement_code s captured types literals leaves

    abbrev of_arm_layer : Arm-F Done Choice Done → Choice
    of_arm_layer = choice_code s captured types literals leaves

    abbrev of_block_layer : Block-F Done Choice Done → Done
    of_block_layer = block_code s captured types literals leaves

    abbrev of_statement : Statement → Done
    of_statement = done_of s captured types literals leaves

    abbrev of_arm : Arm → Choice
    of_arm = fold-Arm Done Choice Done of_layer of_arm_layer of_block_layer

    abbrev of_block : Block → Done
    of_block = block_of s captured types literals leaves

    abbrev StatementIs : Statement → Type 0
    StatementIs x = AllAllowed (made_of_statement x) → DoneIs (of_statement x)

    abbrev ArmIs : Arm → Type 0
    ArmIs x = AllAllowed (made_of_arm x) → ChoiceIs (of_arm x)

    abbrev BlockIs : Block → Type 0
    BlockIs x = AllAllowed (made_of_block x) → DoneIs (of_block x)

    abbrev StatementHeld : Type 0
    StatementHeld = (x : Statement) × StatementIs x

    abbrev ArmHeld : Type 0
    ArmHeld = (x : Arm) × ArmIs x

    abbrev BlockHeld : Type 0
    BlockHeld = (x : Block) × BlockIs x

    abbrev bare_s : StatementHeld → Statement
    bare_s x = x.0

    abbrev bare_a : ArmHeld → Arm
    bare_a x = x.0

    abbrev bare_b : BlockHeld → Block
    bare_b x = x.0

    abbrev bare_statement : Statement-F StatementHeld ArmHeld BlockHeld → Statement-F Statement Arm Block
    bare_statement = map-Statement StatementHeld ArmHeld BlockHeld Statement Arm Block bare_s bare_a bare_b

    abbrev bare_arm : Arm-F StatementHeld ArmHeld BlockHeld → Arm-F Statement Arm Block
    bare_arm = map-Arm StatementHeld ArmHeld BlockHeld Statement Arm Block bare_s bare_a bare_b

    abbrev bare_block : Block-F StatementHeld ArmHeld BlockHeld → Block-F Statement Arm Block
    bare_block = map-Block StatementHeld ArmHeld BlockHeld Statement Arm Block bare_s bare_a bare_b

    abbrev coded : Statement-F Statement Arm Block → Statement-F Done Choice Done
    coded = map-Statement Statement Arm Block Done Choice Done of_statement of_arm of_block

    abbrev typed : Statement-F Statement Arm Block → Statement-F Types Types Types
    typed = map-Statement Statement Arm Block Types Types Types made_of_statement made_of_arm made_of_block

    abbrev types_of_statements : List StatementHeld → Types
    types_of_statements xs = joined (map made_of_statement (map bare_s xs))

    abbrev types_of_arms : List ArmHeld → Types
    types_of_arms xs = joined (map made_of_arm (map bare_a xs))

    statements_are : (xs : List StatementHeld) → AllAllowed (types_of_statements xs) → Every DoneIs (map of_statement (map bare_s xs))
    statements_are [] n = tt
    statements_are (x ∷ xs) n = (
      x.1 (of_first W (made_of_statement x.0) (types_of_statements xs) n),
      statements_are xs (of_rest W (made_of_statement x.0) (types_of_statements xs) n),
    )

    choices_are : (xs : List ArmHeld) → AllAllowed (types_of_arms xs) → Every ChoiceIs (map of_arm (map bare_a xs))
    choices_are [] n = tt
    choices_are (x ∷ xs) n = (
      x.1 (of_first W (made_of_arm x.0) (types_of_arms xs) n),
      choices_are xs (of_rest W (made_of_arm x.0) (types_of_arms xs) n),
    )

    -- ---- one layer

    layer : (y : Statement-F StatementHeld ArmHeld BlockHeld) → AllAllowed (statement_made (typed (bare_statement y)))
        → DoneIs (of_layer (coded (bare_statement y)))
    layer (Statement-F.Declare v None) n left = default_is v (slice_get types v)
    layer (Statement-F.Declare v (Some x)) n left = stored_is (place.Variable v) x n
    layer (Statement-F.Assign p x) n left = stored_is p x n
    layer (Statement-F.SetElement x y z at) n left =
        let more : Types = made_of y ++ made_of z in
        stop_is (x ∷ y ∷ z ∷ []) _ tt
        (value_is x (of_first W (made_of x) more n), two_are y z (of_rest W (made_of x) more n))
    layer (Statement-F.Drop x) n left = let k = value_is x n in k.code 0
    layer (Statement-F.Print x) n left = stop_is (x ∷ []) _ tt (value_is x n, tt)
    layer (Statement-F.If arms None) n left =
        arms_are (map of_arm (map bare_a arms)) None (choices_are arms (of_first W (types_of_arms arms) [] n)) tt left
    layer (Statement-F.If arms (Some b)) n left =
        arms_are (map of_arm (map bare_a arms)) (Some (of_block b.0))
        (choices_are arms (of_first W (types_of_arms arms) (made_of_block b.0) n))
        (b.1 (of_rest W (types_of_arms arms) (made_of_block b.0) n)) left
    layer (Statement-F.Loop b) n left = loop_is (of_block b.0) (b.1 n)
    layer (Statement-F.Exit None) n left = (tt, tt)
    layer (Statement-F.Exit (Some x)) n left =
        let k = value_is x n in both W ((here x).condition 0).code _ (k.condition 0) (tt, tt)
    layer Statement-F.Return n left = ends
    layer (Statement-F.Assert x at) n left =
        let k = value_is x n in both W ((here x).condition 0).code _ (k.condition 0) (tt, (tt, tt))
    layer (Statement-F.Move x y at) n left = stop_is (x ∷ y ∷ []) _ tt (two_are x y n)
    layer (Statement-F.Fix x y at) n left = stop_is (x ∷ y ∷ []) _ tt (two_are x y n)
    layer (Statement-F.Refix x y at) n left = stop_is (x ∷ y ∷ []) _ tt (two_are x y n)
    layer (Statement-F.Unfix x at) n left = stop_is (x ∷ []) _ tt (value_is x n, tt)
    layer (Statement-F.Wait c) n left = (tt, tt)
    layer (Statement-F.Signal c) n left = (tt, tt)

    -- ---- the induction

    statement_from : (x : Statement-F Statement Arm Block) (y : Statement-F StatementHeld ArmHeld BlockHeld) →
        bare_statement y ≡ x → StatementIs (roll-Statement x)
    statement_from x y is =
        subst (λ z. StatementIs (roll-Statement z)) is
        (λ n.
        let b : Statement-F Statement Arm Block = bare_statement y in
        subst DoneIs (sym (fold-roll-Statement Done Choice Done of_layer of_arm_layer of_block_layer b))
        (layer y
        (subst AllAllowed (fold-roll-Statement Types Types Types statement_made arm_made block_made b) n)))

    arm_from : (x : Arm-F Statement Arm Block) (y : Arm-F StatementHeld ArmHeld BlockHeld) → bare_arm y ≡ x → ArmIs (roll-Arm x)
    arm_from x y is =
        subst (λ z. ArmIs (roll-Arm z)) is
        (λ n.
        let b : Arm-F Statement Arm Block = bare_arm y in
        let ns : AllAllowed (made_of y.condition ++ made_of_block y.block.0) =
        subst AllAllowed (fold-roll-Arm Types Types Types statement_made arm_made block_made b) n in
        let k = value_is y.condition (of_first W (made_of y.condition) (made_of_block y.block.0) ns) in
        subst ChoiceIs (sym (fold-roll-Arm Done Choice Done of_layer of_arm_layer of_block_layer b))
        (record {
          condition = k.condition 0;
          block = y.block.1 (of_rest W (made_of y.condition) (made_of_block y.block.0) ns);
        }))

    block_from : (x : Block-F Statement Arm Block) (y : Block-F StatementHeld ArmHeld BlockHeld) → bare_block y ≡ x →
        BlockIs (roll-Block x)
    block_from x y is =
        subst (λ z. BlockIs (roll-Block z)) is
        (λ n.
        let b : Block-F Statement Arm Block = bare_block y in
        subst DoneIs (sym (fold-roll-Block Done Choice Done of_layer of_arm_layer of_block_layer b))
        (in_order_is (map of_statement (map bare_s y.statements))
        (statements_are y.statements
        (subst AllAllowed (fold-roll-Block Types Types Types statement_made arm_made block_made b) n))))

    pub block_is : (b : Block) → AllAllowed (made_of_block b) → DoneIs (block_of s captured types literals leaves b)
    block_is = ind-Block StatementIs ArmIs BlockIs statement_from arm_from block_from
