-- Each block in which the numbers are below 2^31 has code with small numbers.
use Rattle.std.proofs.Common.{◌≡◌, ℕ, zero, suc, ◌+◌, List, [], ◌∷◌, ◌++◌, length, map, arith, Option, Some, None, sym, subst}
use Rattle.std.proofs.Common.{slice_get}
use Rattle.std.specs.List.{AllByRecursion as Each}
use Rattle.ec_code.specs.declared.code.Op.{Op}
use Rattle.ec_code.specs.declared.code.Op.TheVariants as op
use Rattle.ec_code.specs.declared.code.Operand.{Operand}
use Rattle.ec_code.specs.declared.code.StopRow.{StopRow}
use Rattle.ec_types.specs.declared.conform.static_type.StaticType.{StaticType}
use Rattle.ec_core.specs.declared.Arm.{Arm, roll-Arm, map-Arm, fold-Arm, fold-roll-Arm}
use Rattle.ec_core.specs.declared.Block.{Block, roll-Block, map-Block, fold-roll-Block, ind-Block}
use Rattle.ec_core.specs.declared.Expression.{Expression}
use Rattle.ec_core.specs.declared.Place.{Place}
use Rattle.ec_core.specs.declared.Place.TheVariants as place
use Rattle.ec_core.specs.declared.Statement.{Statement, roll-Statement, map-Statement, fold-roll-Statement}
use Rattle.ec_core.specs.declared.Statement.TheOpen.{Statement-F, Arm-F, Block-F}
use Rattle.ec_core_laws.specs.Numbers.{arm_numbers, block_numbers, numbers_in, numbers_in_arm, numbers_in_block}
use Rattle.ec_core_laws.specs.Numbers.{numbers_in_statement}
use Rattle.ec_core_laws.specs.Numbers.{statement_numbers}
use Rattle.ec_core_laws.specs.TreeNumbers.{Fits, Numbers, joined}
use Rattle.ec_emission.specs.Expressions.{Emitted, all_code, operand_code, operand_of}
use Rattle.ec_emission.specs.Statements.{Choice, Done, arm_code, arms_code, block_code, block_of, choice_code, defaults_from, done_of}
use Rattle.ec_emission.specs.Statements.{given, in_order}
use Rattle.ec_emission.specs.Statements.{jump_over, loop_code, statement_code, store, unless, value_of}
use Rattle.ec_meaning.specs.Programs.{Source}
use Rattle.ec_meaning.specs.Steps.{default_if}
use Rattle.ec_meaning.specs.Types.{kind_of}
use Rattle.ec_code.specs.Code.{SmallOperand}
use Rattle.ec_world.specs.Values.{default_of}
use Rattle.ec_world.specs.declared.value.ValueType.{ValueType}
use Rattle.ec_world.specs.declared.value.ValueType.TheVariants as kind
use Rattle.ec_emission_laws.proofs.Emitted.{Small, SmallCondition, SmallEmitted, all_small, both, operand_code_small, operand_small}
use Rattle.ec_emission_laws.proofs.SmallProgramsExpressions.{AllFit, is_small}
use Rattle.ec_emission_laws.proofs.Lists.{each_left, each_right}

-- ---- what is shown of each part

abbrev pub SmallDone : Done → Type 0
SmallDone d = (left : ℕ) → Small (d.code left)

record SmallChoice (a : Choice) : Type 0 where
  pub condition : SmallCondition a.condition
  pub block : SmallDone a.block

jump_small : (n : ℕ) → Small (jump_over n)
jump_small zero = tt
jump_small (suc n) = (tt, tt)

in_order_small : (ds : List Done) → Each SmallDone ds → (left : ℕ) → Small (in_order ds left)
in_order_small [] k left = tt
in_order_small (d ∷ ds) k left =
    let rest : List Op = in_order ds left in
    both (d.code (length rest + left)) rest (k.0 (length rest + left)) (in_order_small ds k.1 left)

arm_small : (a : Choice) (rest : List Op) (left : ℕ) → SmallChoice a → Small rest → Small (arm_code a rest left)
arm_small a rest left k r =
    let over : List Op = jump_over (length rest) in
    let block : List Op = a.block.code (length over + (length rest + left)) in
    let c = k.condition in
    both a.condition.code (unless a.condition (length block + length over) ∷ (block ++ (over ++ rest))) c.code
    (c.asks, both block (over ++ rest) (k.block (length over + (length rest + left))) (both over rest (jump_small (length rest)) r))

abbrev SmallIf : Option Done → Type 0
SmallIf None = Unit {0}
SmallIf (Some d) = SmallDone d

arms_small : (arms : List Choice) (other : Option Done) → Each SmallChoice arms → SmallIf other → (left : ℕ)
    → Small (arms_code arms other left)
arms_small [] None k o left = tt
arms_small [] (Some other) k o left = o left
arms_small (a ∷ arms) other k o left = arm_small a (arms_code arms other left) left k.0 (arms_small arms other k.1 o left)

loop_small : (body : Done) → SmallDone body → Small (loop_code body)
loop_small body k = (tt, both (body.code 1) (op.Again (suc (length (body.code 1))) ∷ []) (k 1) (tt, tt))

-- The code is of an operation with variables of these types, of objects whose class captures so many names; `leaves` is the
-- code of its end.
module _ (s : Source) (captured : ℕ) (types : List StaticType) (literals : List (List ℕ)) (leaves : List Op) (ends : Small leaves) where
  -- ---- defaults

  kind_small : (n : ℕ) (k : ValueType) → Small (given s captured types literals leaves n (default_of k))
  kind_small n kind.Integer = (record { sfits = omega arith }, tt)
  kind_small n kind.Boolean = (tt, tt)
  kind_small n kind.Bytes = (tt, tt)
  kind_small n kind.Reference = (tt, tt)

  default_small : (n : ℕ) (of : Option StaticType) → Small (given s captured types literals leaves n (default_if of))
  default_small n None = (tt, tt)
  default_small n (Some of) = kind_small n (kind_of of)

  pub defaults_small : (n : ℕ) (ts : List StaticType) → Small (defaults_from s captured types literals leaves n ts)
  defaults_small n [] = tt
  defaults_small n (t ∷ ts) =
      both (given s captured types literals leaves n (default_of (kind_of t))) (defaults_from s captured types literals leaves (suc n) ts)
      (kind_small n (kind_of t)) (defaults_small (suc n) ts)

  -- ---- expressions

  abbrev here : Expression → Emitted
  here = value_of s captured types literals leaves

  small : (x : Expression) → AllFit (numbers_in x) → SmallEmitted (here x)
  small = is_small s captured (length types) literals

  store_small : (p : Place) (from : Operand) → SmallOperand from → Small (store s captured types literals leaves p from)
  store_small (place.Variable n) from k = (k, tt)
  store_small (place.Field n) from k = (k, tt)
  store_small (place.Captured n) from k = tt
  store_small (place.Constant n) from k = tt

  stored_small : (p : Place) (x : Expression) → AllFit (numbers_in x)
      → Small (operand_code (here x) 0 ++ store s captured types literals leaves p (operand_of (here x) 0))
  stored_small p x n =
      both (operand_code (here x) 0) (store s captured types literals leaves p (operand_of (here x) 0))
      (operand_code_small (here x) (small x n) 0) (store_small p (operand_of (here x) 0) (operand_small (here x) (small x n) 0))

  -- values, and a stop that takes them
  stop_small : (xs : List Expression) (row : StopRow) → Each SmallEmitted (map here xs)
      → Small (all_code (map here xs) 0 ++ op.Rest row ∷ [])
  stop_small xs row k = both (all_code (map here xs) 0) (op.Rest row ∷ []) (all_small (map here xs) k 0) (tt, tt)

  two_small : (x y : Expression) → AllFit (numbers_in x ++ numbers_in y) → Each SmallEmitted (map here (x ∷ y ∷ []))
  two_small x y n =
      (small x (each_left Fits (numbers_in x) (numbers_in y) n), (small y (each_right Fits (numbers_in x) (numbers_in y) n), tt))

  -- ---- parts

  abbrev of_layer : Statement-F Done Choice Done → Done
  of_layer = statement_code s captured types literals leaves

  abbrev of_arm_layer : Arm-F Done Choice Done → Choice
  of_arm_layer = choice_code s captured types literals leaves

  abbrev of_block_layer : Block-F Done Choice Done → Done
  of_block_layer = block_code s captured types literals leaves

  abbrev of_statement : Statement → Done
  of_statement = done_of s captured types literals leaves

  abbrev of_arm : Arm → Choice
  of_arm = fold-Arm Done Choice Done of_layer of_arm_layer of_block_layer

  abbrev of_block : Block → Done
  of_block = block_of s captured types literals leaves

  abbrev StatementIs : Statement → Type 0
  StatementIs x = AllFit (numbers_in_statement x) → SmallDone (of_statement x)

  abbrev ArmIs : Arm → Type 0
  ArmIs x = AllFit (numbers_in_arm x) → SmallChoice (of_arm x)

  abbrev BlockIs : Block → Type 0
  BlockIs x = AllFit (numbers_in_block x) → SmallDone (of_block x)

  abbrev StatementHeld : Type 0
  StatementHeld = (x : Statement) × StatementIs x

  abbrev ArmHeld : Type 0
  ArmHeld = (x : Arm) × ArmIs x

  abbrev BlockHeld : Type 0
  BlockHeld = (x : Block) × BlockIs x

  abbrev bare_s : StatementHeld → Statement
  bare_s x = x.0

  abbrev bare_a : ArmHeld → Arm
  bare_a x = x.0

  abbrev bare_b : BlockHeld → Block
  bare_b x = x.0

  abbrev bare_statement : Statement-F StatementHeld ArmHeld BlockHeld → Statement-F Statement Arm Block
  bare_statement = map-Statement StatementHeld ArmHeld BlockHeld Statement Arm Block bare_s bare_a bare_b

  abbrev bare_arm : Arm-F StatementHeld ArmHeld BlockHeld → Arm-F Statement Arm Block
  bare_arm = map-Arm StatementHeld ArmHeld BlockHeld Statement Arm Block bare_s bare_a bare_b

  abbrev bare_block : Block-F StatementHeld ArmHeld BlockHeld → Block-F Statement Arm Block
  bare_block = map-Block StatementHeld ArmHeld BlockHeld Statement Arm Block bare_s bare_a bare_b

  abbrev coded : Statement-F Statement Arm Block → Statement-F Done Choice Done
  coded = map-Statement Statement Arm Block Done Choice Done of_statement of_arm of_block

  abbrev numbered : Statement-F Statement Arm Block → Statement-F Numbers Numbers Numbers
  numbered = map-Statement Statement Arm Block Numbers Numbers Numbers numbers_in_statement numbers_in_arm numbers_in_block

  abbrev numbers_of_statements : List StatementHeld → Numbers
  numbers_of_statements xs = joined (map numbers_in_statement (map bare_s xs))

  abbrev numbers_of_arms : List ArmHeld → Numbers
  numbers_of_arms xs = joined (map numbers_in_arm (map bare_a xs))

  statements_small : (xs : List StatementHeld) → AllFit (numbers_of_statements xs) → Each SmallDone (map of_statement (map bare_s xs))
  statements_small [] n = tt
  statements_small (x ∷ xs) n = (
    x.1 (each_left Fits (numbers_in_statement x.0) (numbers_of_statements xs) n),
    statements_small xs (each_right Fits (numbers_in_statement x.0) (numbers_of_statements xs) n),
  )

  choices_small : (xs : List ArmHeld) → AllFit (numbers_of_arms xs) → Each SmallChoice (map of_arm (map bare_a xs))
  choices_small [] n = tt
  choices_small (x ∷ xs) n = (
    x.1 (each_left Fits (numbers_in_arm x.0) (numbers_of_arms xs) n),
    choices_small xs (each_right Fits (numbers_in_arm x.0) (numbers_of_arms xs) n),
  )

  -- ---- one layer

  layer : (y : Statement-F StatementHeld ArmHeld BlockHeld) → AllFit (statement_numbers (numbered (bare_statement y)))
      → SmallDone (of_layer (coded (bare_statement y)))
  layer (Statement-F.Declare v None) n left = default_small v (slice_get types v)
  layer (Statement-F.Declare v (Some x)) n left = stored_small (place.Variable v) x n
  layer (Statement-F.Assign p x) n left = stored_small p x n
  layer (Statement-F.SetElement x y z at) n left =
      let more : Numbers = numbers_in y ++ numbers_in z in
      stop_small (x ∷ y ∷ z ∷ []) _
      (small x (each_left Fits (numbers_in x) more n), two_small y z (each_right Fits (numbers_in x) more n))
  layer (Statement-F.Drop x) n left = let k = small x n in k.code 0
  layer (Statement-F.Print x) n left = stop_small (x ∷ []) _ (small x n, tt)
  layer (Statement-F.If arms None) n left =
      arms_small (map of_arm (map bare_a arms)) None (choices_small arms (each_left Fits (numbers_of_arms arms) [] n)) tt left
  layer (Statement-F.If arms (Some b)) n left =
      arms_small (map of_arm (map bare_a arms)) (Some (of_block b.0))
      (choices_small arms (each_left Fits (numbers_of_arms arms) (numbers_in_block b.0) n))
      (b.1 (each_right Fits (numbers_of_arms arms) (numbers_in_block b.0) n)) left
  layer (Statement-F.Loop b) n left = loop_small (of_block b.0) (b.1 n)
  layer (Statement-F.Exit None) n left = (tt, tt)
  layer (Statement-F.Exit (Some x)) n left =
      let k = small x n in
      let c = k.condition 0 in both ((here x).condition 0).code _ c.code (c.asks, tt)
  layer Statement-F.Return n left = ends
  layer (Statement-F.Assert x at) n left =
      let k = small x n in
      let c = k.condition 0 in both ((here x).condition 0).code _ c.code (c.asks, (tt, tt))
  layer (Statement-F.Move x y at) n left = stop_small (x ∷ y ∷ []) _ (two_small x y n)
  layer (Statement-F.Fix x y at) n left = stop_small (x ∷ y ∷ []) _ (two_small x y n)
  layer (Statement-F.Refix x y at) n left = stop_small (x ∷ y ∷ []) _ (two_small x y n)
  layer (Statement-F.Unfix x at) n left = stop_small (x ∷ []) _ (small x n, tt)
  layer (Statement-F.Wait c) n left = (tt, tt)
  layer (Statement-F.Signal c) n left = (tt, tt)

  -- ---- the induction

  statement_from : (x : Statement-F Statement Arm Block) (y : Statement-F StatementHeld ArmHeld BlockHeld) →
      bare_statement y ≡ x → StatementIs (roll-Statement x)
  statement_from x y is =
      subst (λ z. StatementIs (roll-Statement z)) is
      (λ n.
      let b : Statement-F Statement Arm Block = bare_statement y in
      subst SmallDone (sym (fold-roll-Statement Done Choice Done of_layer of_arm_layer of_block_layer b))
      (layer y
      (subst AllFit (fold-roll-Statement Numbers Numbers Numbers statement_numbers arm_numbers block_numbers b) n)))

  arm_from : (x : Arm-F Statement Arm Block) (y : Arm-F StatementHeld ArmHeld BlockHeld) → bare_arm y ≡ x → ArmIs (roll-Arm x)
  arm_from x y is =
      subst (λ z. ArmIs (roll-Arm z)) is
      (λ n.
      let b : Arm-F Statement Arm Block = bare_arm y in
      let ns : AllFit (numbers_in y.condition ++ numbers_in_block y.block.0) =
      subst AllFit (fold-roll-Arm Numbers Numbers Numbers statement_numbers arm_numbers block_numbers b) n in
      let k = small y.condition (each_left Fits (numbers_in y.condition) (numbers_in_block y.block.0) ns) in
      subst SmallChoice (sym (fold-roll-Arm Done Choice Done of_layer of_arm_layer of_block_layer b))
      (record {
        condition = k.condition 0;
        block = y.block.1 (each_right Fits (numbers_in y.condition) (numbers_in_block y.block.0) ns);
      }))

  block_from : (x : Block-F Statement Arm Block) (y : Block-F StatementHeld ArmHeld BlockHeld) → bare_block y ≡ x →
      BlockIs (roll-Block x)
  block_from x y is =
      subst (λ z. BlockIs (roll-Block z)) is
      (λ n.
      let b : Block-F Statement Arm Block = bare_block y in
      subst SmallDone (sym (fold-roll-Block Done Choice Done of_layer of_arm_layer of_block_layer b))
      (in_order_small (map of_statement (map bare_s y.statements))
      (statements_small y.statements
      (subst AllFit (fold-roll-Block Numbers Numbers Numbers statement_numbers arm_numbers block_numbers b) n))))

  pub block_small : (b : Block) → AllFit (numbers_in_block b) → SmallDone (block_of s captured types literals leaves b)
  block_small = ind-Block StatementIs ArmIs BlockIs statement_from arm_from block_from
