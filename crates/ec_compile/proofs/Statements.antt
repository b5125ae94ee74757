-- The code of each block is short, and reads and writes only variables that are there: one induction over statements.
use Rattle.std.proofs.Common.{◌≡◌, ℕ, ◌+◌, ◌*◌, ◌<◌, ◌≤◌, max, List, [], ◌∷◌, ◌++◌, length, map, Option, Some, None, sym, subst, arith}
use Rattle.std.proofs.Common.{slice_get}
use Rattle.ec_check.proofs.Every.{Every, every_left, every_right}
use Rattle.ec_check.specs.Numbers.{Number, joined, in_expression, in_statement, in_arm, in_block, statement_numbers, arm_numbers}
use Rattle.ec_check.specs.Numbers.{block_numbers}
use Rattle.ec_code.specs.declared.code.Op.{Op}
use Rattle.ec_code.specs.declared.code.Op.TheVariants as op
use Rattle.ec_compile.proofs.Blocks.{Short, ShortArm, arm_within, conditional_within, given_within, loop_within, one_rests, stored_short}
use Rattle.ec_compile.proofs.Blocks.{three_rest, two_rest, where_within}
use Rattle.ec_compile.proofs.Expressions.{is_sized}
use Rattle.ec_compile.proofs.Forms.{IsCounted}
use Rattle.ec_compile.proofs.Sized.{Sized}
use Rattle.ec_compile.proofs.Within.{Within, join, more, nothing, one, step}
use Rattle.ec_types.specs.declared.conform.static_type.StaticType.{StaticType}
use Rattle.ec_core.specs.declared.Arm.{Arm, roll-Arm, map-Arm, fold-Arm, fold-roll-Arm}
use Rattle.ec_core.specs.declared.Block.{Block, roll-Block, map-Block, fold-roll-Block, ind-Block}
use Rattle.ec_core.specs.declared.Expression.{Expression}
use Rattle.ec_core.specs.declared.Place.TheVariants as place
use Rattle.ec_core.specs.declared.Statement.{Statement, roll-Statement, map-Statement, fold-roll-Statement}
use Rattle.ec_core.specs.declared.Statement.TheOpen.{Statement-F, Arm-F, Block-F}
use Rattle.ec_core_laws.specs.Measures.{all_of, greatest_of, size_of, height_of, statement_size, arm_size, block_size}
use Rattle.ec_core_laws.specs.Measures.{size_of_statement, size_of_arm, size_of_block, statement_height, arm_height, block_height}
use Rattle.ec_core_laws.specs.Measures.{height_of_statement, height_of_arm, height_of_block}
use Rattle.ec_core_laws.specs.Captures.{captures_of, statement_captures, arm_captures, block_captures, captures_of_statement}
use Rattle.ec_core_laws.specs.Captures.{captures_of_arm, captures_of_block}
use Rattle.ec_emission.specs.Expressions.{Emitted, all_code}
use Rattle.ec_core.specs.Literals.{Texts}
use Rattle.ec_emission.specs.Statements.{Choice, Done, arms_code, block_code, block_of, choice_code, done_of, in_order, required}
use Rattle.ec_emission.specs.Statements.{statement_code, value_of, where_it_holds}
use Rattle.ec_meaning.specs.Programs.{Source, line}
use Rattle.ec_meaning.specs.Steps.{default_if}
use Rattle.ec_emission.specs.Rows.{bare_row, fail_row, rest_row}
use Rattle.ec_world.specs.declared.process.Cause.TheVariants as cause
use Rattle.ec_world.specs.declared.stop.Stop.{Stop}
use Rattle.ec_world.specs.declared.stop.Stop.TheVariants as stop

-- The code is of an operation with variables of these types, of objects whose class captures so many names; `leaves` is the code of
-- its end, one step.
module _ (s : Source) (captured : ℕ) (types : List StaticType) (literals : Texts) (leaves : List Op)
    (ends : (top : ℕ) → Within (length types) top 1 leaves) where
  abbrev count : ℕ
  count = length types

  abbrev of_layer : Statement-F Done Choice Done → Done
  of_layer = statement_code s captured types literals leaves

  abbrev of_arm_layer : Arm-F Done Choice Done → Choice
  of_arm_layer = choice_code s captured types literals leaves

  abbrev of_block_layer : Block-F Done Choice Done → Done
  of_block_layer = block_code s captured types literals leaves

  abbrev of_statement : Statement → Done
  of_statement = done_of s captured types literals leaves

  abbrev of_arm : Arm → Choice
  of_arm = fold-Arm Done Choice Done of_layer of_arm_layer of_block_layer

  abbrev of_block : Block → Done
  of_block = block_of s captured types literals leaves

  -- Each variable in a part is one of so many.
  abbrev Counts : List Number → Type 0
  Counts ns = Every (IsCounted (length types)) ns

  -- At most two steps for each node and one for each captured value.
  abbrev StatementShort : Statement → Type 0
  StatementShort x =
      Counts (in_statement x) →
      Short (length types) (height_of_statement x) (2 * size_of_statement x + captures_of_statement x) (of_statement x)

  abbrev ArmShort : Arm → Type 0
  ArmShort x = Counts (in_arm x) → ShortArm (length types) (height_of_arm x) (2 * size_of_arm x + captures_of_arm x) (of_arm x)

  abbrev pub BlockShort : Block → Type 0
  BlockShort x =
      Every (IsCounted (length types)) (in_block x) →
      Short (length types) (height_of_block x) (2 * size_of_block x + captures_of_block x) (block_of s captured types literals leaves x)

  abbrev StatementHeld : Type 0
  StatementHeld = (x : Statement) × StatementShort x

  abbrev ArmHeld : Type 0
  ArmHeld = (x : Arm) × ArmShort x

  abbrev BlockHeld : Type 0
  BlockHeld = (x : Block) × BlockShort x

  abbrev bare_s : StatementHeld → Statement
  bare_s x = x.0

  abbrev bare_a : ArmHeld → Arm
  bare_a x = x.0

  abbrev bare_b : BlockHeld → Block
  bare_b x = x.0

  abbrev Layer : Type 0
  Layer = Statement-F StatementHeld ArmHeld BlockHeld

  abbrev bare_statement : Layer → Statement-F Statement Arm Block
  bare_statement = map-Statement StatementHeld ArmHeld BlockHeld Statement Arm Block bare_s bare_a bare_b

  abbrev bare_arm : Arm-F StatementHeld ArmHeld BlockHeld → Arm-F Statement Arm Block
  bare_arm = map-Arm StatementHeld ArmHeld BlockHeld Statement Arm Block bare_s bare_a bare_b

  abbrev bare_block : Block-F StatementHeld ArmHeld BlockHeld → Block-F Statement Arm Block
  bare_block = map-Block StatementHeld ArmHeld BlockHeld Statement Arm Block bare_s bare_a bare_b

  abbrev coded : Statement-F Statement Arm Block → Statement-F Done Choice Done
  coded = map-Statement Statement Arm Block Done Choice Done of_statement of_arm of_block

  abbrev Numbers : Type 0
  Numbers = List Number

  abbrev numbers_in : Layer → Numbers
  numbers_in y =
      statement_numbers (map-Statement Statement Arm Block Numbers Numbers Numbers in_statement in_arm in_block (bare_statement y))

  abbrev size_in : Layer → ℕ
  size_in y = statement_size (map-Statement Statement Arm Block ℕ ℕ ℕ size_of_statement size_of_arm size_of_block (bare_statement y))

  abbrev height_in : Layer → ℕ
  height_in y =
      statement_height (map-Statement Statement Arm Block ℕ ℕ ℕ height_of_statement height_of_arm height_of_block (bare_statement y))

  abbrev captures_in : Layer → ℕ
  captures_in y =
      statement_captures
      (map-Statement Statement Arm Block ℕ ℕ ℕ captures_of_statement captures_of_arm captures_of_block (bare_statement y))

  -- ---- expressions

  abbrev code_of : Expression → Emitted
  code_of x = value_of s captured types literals leaves x

  value : (x : Expression) → Counts (in_expression x) →
      Sized (length types) (height_of x) (2 * size_of x + captures_of x) (value_of s captured types literals leaves x)
  value x c = is_sized s captured (length types) literals x c

  two : (x y : Expression) (action : Stop) → Counts (in_expression x ++ in_expression y) → (top : ℕ) →
      max (height_of x) (1 + height_of y) ≤ top →
      Within (length types) top (2 * (1 + (size_of x + size_of y)) + (captures_of x + captures_of y))
      (all_code (code_of x ∷ code_of y ∷ []) 0 ++ op.Rest (rest_row action 0 2 None) ∷ [])
  two x y action c top l =
      let k = value x (every_left (IsCounted (length types)) (in_expression x) (in_expression y) c) in
      let j = value y (every_right (IsCounted (length types)) (in_expression x) (in_expression y) c) in
      let u : k.most < 2 * size_of x + captures_of x = k.under in
      let t : j.most < 2 * size_of y + captures_of y = j.under in
      let v : 1 ≤ height_of y = j.holds.some in
      more ((k.most + j.most) + 1) _ _ (omega arith)
      (two_rest action top k.most j.most (code_of x) (code_of y)
      (k.holds.code 0 top (omega arith)) (j.holds.code 1 top (omega arith)) (omega arith))

  one_stop : (x : Expression) (action : Stop) → Counts (in_expression x) → (top : ℕ) → height_of x ≤ top →
      Within (length types) top (2 * (1 + size_of x) + captures_of x)
      (all_code (code_of x ∷ []) 0 ++ op.Rest (rest_row action 0 1 None) ∷ [])
  one_stop x action c top l =
      let k = value x c in
      let u : k.most < 2 * size_of x + captures_of x = k.under in
      let v : 1 ≤ height_of x = k.holds.some in
      more (k.most + 1) _ _ (omega arith)
      (one_rests action top k.most (code_of x) (k.holds.code 0 top (omega arith)) (omega arith))

  -- ---- lists of parts

  abbrev numbers_of_statements : List StatementHeld → Numbers
  numbers_of_statements xs = joined (map in_statement (map bare_s xs))

  abbrev budget_of_statements : List StatementHeld → ℕ
  budget_of_statements xs = 2 * all_of (map size_of_statement (map bare_s xs)) + all_of (map captures_of_statement (map bare_s xs))

  statements_within : (xs : List StatementHeld) → Counts (numbers_of_statements xs) → (left top : ℕ) →
      greatest_of (map height_of_statement (map bare_s xs)) ≤ top →
      Within (length types) top (budget_of_statements xs) (in_order (map of_statement (map bare_s xs)) left)
  statements_within [] c left top l = more 0 _ [] (omega arith) nothing
  statements_within (x ∷ xs) c left top l =
      let k = x.1 (every_left (IsCounted (length types)) (in_statement x.0) (numbers_of_statements xs) c) in
      let rest : List Op = in_order (map of_statement (map bare_s xs)) left in
      let b : ℕ = 2 * size_of_statement x.0 + captures_of_statement x.0 in
      more (b + budget_of_statements xs) _ _ (omega arith)
      (join b (budget_of_statements xs) ((of_statement x.0).code (length rest + left)) rest
      (k.code (length rest + left) top (omega arith))
      (statements_within xs (every_right (IsCounted (length types)) (in_statement x.0) (numbers_of_statements xs) c) left top
      (omega arith)))

  abbrev numbers_of_arms : List ArmHeld → Numbers
  numbers_of_arms xs = joined (map in_arm (map bare_a xs))

  abbrev budget_of_arms : List ArmHeld → ℕ
  budget_of_arms xs = 2 * all_of (map size_of_arm (map bare_a xs)) + all_of (map captures_of_arm (map bare_a xs))

  arms_within : (xs : List ArmHeld) → Counts (numbers_of_arms xs) → (other : Option Done) (left top m : ℕ) →
      greatest_of (map height_of_arm (map bare_a xs)) ≤ top → Within (length types) top m (arms_code [] other left) →
      Within (length types) top (budget_of_arms xs + m) (arms_code (map of_arm (map bare_a xs)) other left)
  arms_within [] c other left top m l w = more m _ _ (omega arith) w
  arms_within (x ∷ xs) c other left top m l w =
      let k = x.1 (every_left (IsCounted (length types)) (in_arm x.0) (numbers_of_arms xs) c) in
      let b : ℕ = 2 * size_of_arm x.0 + captures_of_arm x.0 in
      let rest : Within (length types) top (budget_of_arms xs + m) (arms_code (map of_arm (map bare_a xs)) other left) =
      arms_within xs (every_right (IsCounted (length types)) (in_arm x.0) (numbers_of_arms xs) c) other left top m (omega arith) w in
      more (b + (budget_of_arms xs + m)) _ _ (omega arith)
      (arm_within (height_of_arm x.0) b top (budget_of_arms xs + m) left (of_arm x.0) (arms_code (map of_arm (map bare_a xs)) other left) k
      (omega arith) rest)

  -- ---- one layer

  layer : (y : Layer) → Counts (numbers_in y) →
      Short (length types) (height_in y) (2 * size_in y + captures_in y) (of_layer (coded (bare_statement y)))
  layer (Statement-F.Declare n None) c = record {
    code = λ left top l.
        more 1 _ _ (omega arith) (given_within s captured types literals leaves top n (default_if (slice_get types n)) c.0);
  }
  layer (Statement-F.Declare n (Some x)) c = record {
    code = λ left top l.
        more (2 * size_of x + captures_of x) _ _ (omega arith)
        ((stored_short s captured types literals leaves (place.Variable n) _ _ _ c.0 (value x c.1)).code left top l);
  }
  layer (Statement-F.Assign p x) c = record {
    code = λ left top l.
        more (2 * size_of x + captures_of x) _ _ (omega arith)
        ((stored_short s captured types literals leaves p _ _ _ c.0 (value x c.1)).code left top l);
  }
  layer (Statement-F.SetElement x y z at) c =
      let k = value x (every_left (IsCounted (length types)) (in_expression x) _ c) in
      let rest = every_right (IsCounted (length types)) (in_expression x) _ c in
      let j = value y (every_left (IsCounted (length types)) (in_expression y) _ rest) in
      let i = value z (every_right (IsCounted (length types)) (in_expression y) _ rest) in
      let u : k.most < 2 * size_of x + captures_of x = k.under in
      let t : j.most < 2 * size_of y + captures_of y = j.under in
      let r : i.most < 2 * size_of z + captures_of z = i.under in
      let v : 1 ≤ height_of z = i.holds.some in
      record {
        code = λ left top l.
            more ((k.most + (j.most + i.most)) + 1) _ _ (omega arith)
            (three_rest (stop.Set (line s at)) top k.most j.most i.most (code_of x) (code_of y) (code_of z)
            (k.holds.code 0 top (omega arith))
            (j.holds.code 1 top (omega arith)) (i.holds.code 2 top (omega arith)) (omega arith));
      }
  layer (Statement-F.Drop x) c =
      let k = value x c in
      let u : k.most < 2 * size_of x + captures_of x = k.under in
      record { code = λ left top l. more k.most _ _ (omega arith) (k.holds.code 0 top (omega arith)) }
  layer (Statement-F.Print x) c = record { code = λ left top l. one_stop x stop.Print c top l }
  layer (Statement-F.If arms None) c = record {
    code = λ left top l.
        more (budget_of_arms arms + 0) _ _ (omega arith)
        (arms_within arms (every_left (IsCounted (length types)) (numbers_of_arms arms) _ c) None left top 0 (omega arith) nothing);
  }
  layer (Statement-F.If arms (Some b)) c =
      let k = b.1 (every_right (IsCounted (length types)) (numbers_of_arms arms) _ c) in
      let m : ℕ = 2 * size_of_block b.0 + captures_of_block b.0 in
      record {
        code = λ left top l.
            more (budget_of_arms arms + m) _ _ (omega arith)
            (arms_within arms (every_left (IsCounted (length types)) (numbers_of_arms arms) _ c) (Some (of_block b.0)) left top m
            (omega arith) (k.code left top (omega arith)));
      }
  layer (Statement-F.Loop b) c =
      let k = b.1 c in
      let m : ℕ = 2 * size_of_block b.0 + captures_of_block b.0 in
      record {
        code = λ left top l. more (m + 2) _ _ (omega arith) (loop_within (height_of_block b.0) m top (of_block b.0) k l);
      }
  layer (Statement-F.Exit None) c = record { code = λ left top l. more 1 _ _ (omega arith) (one (op.Jump left) (tt, tt)) }
  layer (Statement-F.Exit (Some x)) c = record {
    code =
        conditional_within (value x c) (λ a left. where_it_holds a left ∷ []) 1 _ (omega arith) where_within;
  }
  layer Statement-F.Return c = record { code = λ left top l. more 1 _ _ (omega arith) (ends top) }
  layer (Statement-F.Assert x at) c = record {
    code =
        conditional_within (value x c) (required s captured types literals leaves (line s at)) 2 _ (omega arith)
        (λ top m left a h.
        step 1 (where_it_holds a 1) (op.Rest (fail_row cause.FalseAssertion (line s at)) ∷ []) (h.asks, tt)
        (one (op.Rest (fail_row cause.FalseAssertion (line s at))) (tt, tt)));
  }
  layer (Statement-F.Move x y at) c = record { code = λ left top l. two x y (stop.Move (line s at)) c top l }
  layer (Statement-F.Fix x y at) c = record { code = λ left top l. two x y (stop.Fix (line s at)) c top l }
  layer (Statement-F.Refix x y at) c = record { code = λ left top l. two x y (stop.Refix (line s at)) c top l }
  layer (Statement-F.Unfix x at) c = record { code = λ left top l. one_stop x (stop.Unfix (line s at)) c top l }
  layer (Statement-F.Wait n) c = record {
    code = λ left top l. more 1 _ _ (omega arith) (one (op.Rest (bare_row (stop.Wait n))) (tt, tt));
  }
  layer (Statement-F.Signal n) c = record {
    code = λ left top l. more 1 _ _ (omega arith) (one (op.Rest (bare_row (stop.Signal n))) (tt, tt));
  }

  -- ---- the induction

  statement_from : (x : Statement-F Statement Arm Block) (y : Layer) → bare_statement y ≡ x → StatementShort (roll-Statement x)
  statement_from x y is =
      subst (λ z. StatementShort (roll-Statement z)) is
      (λ c.
      subst
      (λ (d : Done).
      Short (length types) (height_of_statement (roll-Statement (bare_statement y)))
      (2 * size_of_statement (roll-Statement (bare_statement y)) + captures_of_statement (roll-Statement (bare_statement y))) d)
      (sym (fold-roll-Statement Done Choice Done of_layer of_arm_layer of_block_layer (bare_statement y)))
      (subst
      (λ (n : ℕ).
      Short (length types) n
      (2 * size_of_statement (roll-Statement (bare_statement y)) + captures_of_statement (roll-Statement (bare_statement y)))
      (of_layer (coded (bare_statement y))))
      (sym (fold-roll-Statement ℕ ℕ ℕ statement_height arm_height block_height (bare_statement y)))
      (subst
      (λ (n : ℕ).
      Short (length types) (height_in y) (2 * n + captures_of_statement (roll-Statement (bare_statement y)))
      (of_layer (coded (bare_statement y))))
      (sym (fold-roll-Statement ℕ ℕ ℕ statement_size arm_size block_size (bare_statement y)))
      (subst (λ (n : ℕ). Short (length types) (height_in y) (2 * size_in y + n) (of_layer (coded (bare_statement y))))
      (sym (fold-roll-Statement ℕ ℕ ℕ statement_captures arm_captures block_captures (bare_statement y)))
      (layer y
      (subst (λ (ns : Numbers). Counts ns)
      (fold-roll-Statement Numbers Numbers Numbers statement_numbers arm_numbers block_numbers (bare_statement y)) c))))))

  arm_from : (x : Arm-F Statement Arm Block) (y : Arm-F StatementHeld ArmHeld BlockHeld) → bare_arm y ≡ x → ArmShort (roll-Arm x)
  arm_from x y is =
      subst (λ z. ArmShort (roll-Arm z)) is
      (λ c.
      let n : Counts (in_expression y.condition ++ in_block y.block.0) =
      subst (λ (ns : Numbers). Counts ns)
      (fold-roll-Arm Numbers Numbers Numbers statement_numbers arm_numbers block_numbers (bare_arm y)) c in
      let k = value y.condition (every_left (IsCounted (length types)) (in_expression y.condition) (in_block y.block.0) n) in
      let j = y.block.1 (every_right (IsCounted (length types)) (in_expression y.condition) (in_block y.block.0) n) in
      let u : k.most < 2 * size_of y.condition + captures_of y.condition = k.under in
      let size : size_of_arm (roll-Arm (bare_arm y)) ≡ 1 + (size_of y.condition + size_of_block y.block.0) =
      fold-roll-Arm ℕ ℕ ℕ statement_size arm_size block_size (bare_arm y) in
      let captures : captures_of_arm (roll-Arm (bare_arm y)) ≡ captures_of y.condition + captures_of_block y.block.0 =
      fold-roll-Arm ℕ ℕ ℕ statement_captures arm_captures block_captures (bare_arm y) in
      let height : height_of_arm (roll-Arm (bare_arm y)) ≡ max (height_of y.condition) (height_of_block y.block.0) =
      fold-roll-Arm ℕ ℕ ℕ statement_height arm_height block_height (bare_arm y) in
      subst
      (λ (d : Choice).
      ShortArm (length types) (height_of_arm (roll-Arm (bare_arm y)))
      (2 * size_of_arm (roll-Arm (bare_arm y)) + captures_of_arm (roll-Arm (bare_arm y))) d)
      (sym (fold-roll-Arm Done Choice Done of_layer of_arm_layer of_block_layer (bare_arm y)))
      (record {
        asks = k.most;
        does = 2 * size_of_block y.block.0 + captures_of_block y.block.0;
        under = omega arith;
        condition = λ top l. k.condition 0 top (omega arith);
        block = λ left top l. j.code left top (omega arith);
      }))

  block_from : (x : Block-F Statement Arm Block) (y : Block-F StatementHeld ArmHeld BlockHeld) → bare_block y ≡ x →
      BlockShort (roll-Block x)
  block_from x y is =
      subst (λ z. BlockShort (roll-Block z)) is
      (λ c.
      let n : Counts (numbers_of_statements y.statements) =
      subst (λ (ns : Numbers). Counts ns)
      (fold-roll-Block Numbers Numbers Numbers statement_numbers arm_numbers block_numbers (bare_block y)) c in
      let size : size_of_block (roll-Block (bare_block y)) ≡ all_of (map size_of_statement (map bare_s y.statements)) =
      fold-roll-Block ℕ ℕ ℕ statement_size arm_size block_size (bare_block y) in
      let captures : captures_of_block (roll-Block (bare_block y)) ≡ all_of (map captures_of_statement (map bare_s y.statements)) =
      fold-roll-Block ℕ ℕ ℕ statement_captures arm_captures block_captures (bare_block y) in
      let height : height_of_block (roll-Block (bare_block y)) ≡ greatest_of (map height_of_statement (map bare_s y.statements)) =
      fold-roll-Block ℕ ℕ ℕ statement_height arm_height block_height (bare_block y) in
      subst
      (λ (d : Done).
      Short (length types) (height_of_block (roll-Block (bare_block y)))
      (2 * size_of_block (roll-Block (bare_block y)) + captures_of_block (roll-Block (bare_block y))) d)
      (sym (fold-roll-Block Done Choice Done of_layer of_arm_layer of_block_layer (bare_block y)))
      (record {
        code = λ left top l. more (budget_of_statements y.statements) _ _ (omega arith)
            (statements_within y.statements n left top (omega arith));
      }))

  pub block_short : (x : Block) → BlockShort x
  block_short = ind-Block StatementShort ArmShort BlockShort statement_from arm_from block_from
