-- What becomes of statements and blocks, over what the code that emits it has.
use Rattle.std.specs.Prelude.{ℕ, suc, ◌+◌, Bool, true, false, not, List, [], ◌∷◌, ◌++◌, length, map, Option, Some, None}
use Rattle.std.specs.Prelude.{slice_get}
use Rattle.ec_code.specs.declared.code.Op.{Op}
use Rattle.ec_code.specs.declared.code.Op.TheVariants as op
use Rattle.ec_code.specs.declared.code.Operand.{Operand}
use Rattle.ec_types.specs.declared.conform.static_type.StaticType.{StaticType}
use Rattle.ec_core.specs.declared.Arm.{Arm, out-Arm, fold-Arm}
use Rattle.ec_core.specs.declared.Block.{Block, fold-Block}
use Rattle.ec_core.specs.declared.Constant.{Constant}
use Rattle.ec_core.specs.declared.Expression.{Expression}
use Rattle.ec_core.specs.declared.Place.{Place}
use Rattle.ec_core.specs.declared.Place.TheVariants as place
use Rattle.ec_core.specs.declared.Statement.{Statement, fold-Statement}
use Rattle.ec_core.specs.declared.Statement.TheOpen.{Statement-F}
use Rattle.ec_emission.specs.Expressions.{Condition, all_code, operand_of}
use Rattle.ec_emission.specs.Statements.{Done, Choice, statement_code, choice_code, block_code, in_order, jump_over}
use Rattle.ec_emission.specs.Statements.{loop_code, store, given}
use Rattle.ec_expressions.specs.Emitting.{source_by, emitted_by, left_code}
use Rattle.ec_expressions.specs.declared.emitter.Emitter.{Emitter}
use Rattle.ec_meaning.specs.Programs.{line}
use Rattle.ec_meaning.specs.Steps.{default_if}
use Rattle.ec_meaning.specs.Types.{kind_of}
use Rattle.ec_emission.specs.Rows.{bare_row, rest_row, fail_row}
use Rattle.ec_world.specs.Values.{default_of}
use Rattle.ec_world.specs.declared.process.Cause.TheVariants as cause
use Rattle.ec_world.specs.declared.stop.Stop.{Stop}
use Rattle.ec_world.specs.declared.stop.Stop.TheVariants as stop
use Rattle.ec_world.specs.declared.value.Value.{Value}

-- what a test is wanted to be where a condition is wanted to hold, or not to
abbrev pub wanted_if : Bool → Bool → Bool
wanted_if true wanted = wanted
wanted_if false wanted = not wanted

abbrev pub branch_if : Bool → Condition → ℕ → Op
branch_if holds c over = op.Branch c.asks (wanted_if holds c.wanted) over

module _ (m : Emitter) where
  -- what goes into a place, and what a variable begins with
  abbrev pub store_by : Place → Operand → List Op
  store_by = store (source_by m) m.captured m.types.now m.literals.now []

  abbrev pub given_by : ℕ → Value → List Op
  given_by = given (source_by m) m.captured m.types.now m.literals.now []

  abbrev pub assigned : Place → Expression → List Op
  assigned p x = left_code (emitted_by m x) true 0 ++ store_by p (operand_of (emitted_by m x) 0)

  abbrev pub declared : ℕ → Option Expression → List Op
  declared n None = given_by n (default_if (slice_get m.types.now n))
  declared n (Some x) = assigned (place.Variable n) x

  -- a stop that takes the values of expressions
  abbrev pub stop_code : List Expression → Stop → List Op
  stop_code xs action = all_code (map (emitted_by m) xs) 0 ++ op.Rest (rest_row action 0 (length xs) None) ∷ []

  abbrev pub line_at : ℕ → ℕ
  line_at = line (source_by m)

  -- The variables get the defaults of their types, and constants their values, from one of a number on, before code.
  abbrev pub defaults_onto : ℕ → List StaticType → List Op → List Op
  defaults_onto n [] old = old
  defaults_onto n (t ∷ ts) old = given_by n (default_of (kind_of t)) ++ defaults_onto (suc n) ts old

  abbrev pub constants_onto : ℕ → List Constant → List Op → List Op
  constants_onto n [] old = old
  constants_onto n (c ∷ cs) old =
      (emitted_by m c.value).code 0 ++ (op.Rest (rest_row (stop.Global n) 0 1 None) ∷ constants_onto (suc n) cs old)

  -- ---- conditions

  -- steps are passed over where a condition holds, or where it doesn't
  abbrev pub decided_by : Bool → Expression → ℕ → List Op
  decided_by holds x over = ((emitted_by m x).condition 0).code ++ branch_if holds ((emitted_by m x).condition 0) over ∷ []

  abbrev pub exited : Option Expression → ℕ → List Op
  exited None left = op.Jump left ∷ []
  exited (Some x) left = decided_by true x left

  abbrev pub asserted : Expression → ℕ → List Op
  asserted x at = decided_by true x 1 ++ op.Rest (fail_row cause.FalseAssertion (line_at at)) ∷ []

  -- ---- statements with no block within

  abbrev pub plain_in : Statement-F Statement Arm Block → List Op
  plain_in (Statement-F.Declare n x) = declared n x
  plain_in (Statement-F.Assign p x) = assigned p x
  plain_in (Statement-F.SetElement vector number x at) = stop_code (vector ∷ number ∷ x ∷ []) (stop.Set (line_at at))
  plain_in (Statement-F.Drop x) = (emitted_by m x).code 0
  plain_in (Statement-F.Print x) = stop_code (x ∷ []) stop.Print
  plain_in (Statement-F.Assert x at) = asserted x at
  plain_in (Statement-F.Move x to at) = stop_code (x ∷ to ∷ []) (stop.Move (line_at at))
  plain_in (Statement-F.Fix x to at) = stop_code (x ∷ to ∷ []) (stop.Fix (line_at at))
  plain_in (Statement-F.Refix x to at) = stop_code (x ∷ to ∷ []) (stop.Refix (line_at at))
  plain_in (Statement-F.Unfix x at) = stop_code (x ∷ []) (stop.Unfix (line_at at))
  plain_in (Statement-F.Wait n) = op.Rest (bare_row (stop.Wait n)) ∷ []
  plain_in (Statement-F.Signal n) = op.Rest (bare_row (stop.Signal n)) ∷ []
  plain_in _ = []

-- ---- the parts of a block

module _ (m : Emitter) (leaves : List Op) where
  unfoldable pub done_by : Statement → Done
  done_by =
      fold-Statement Done Choice Done (statement_code (source_by m) m.captured m.types.now m.literals.now leaves)
      (choice_code (source_by m) m.captured m.types.now m.literals.now leaves)
      (block_code (source_by m) m.captured m.types.now m.literals.now leaves)

  unfoldable pub choice_by : Arm → Choice
  choice_by =
      fold-Arm Done Choice Done (statement_code (source_by m) m.captured m.types.now m.literals.now leaves)
      (choice_code (source_by m) m.captured m.types.now m.literals.now leaves)
      (block_code (source_by m) m.captured m.types.now m.literals.now leaves)

  unfoldable pub block_by : Block → Done
  block_by =
      fold-Block Done Choice Done (statement_code (source_by m) m.captured m.types.now m.literals.now leaves)
      (choice_code (source_by m) m.captured m.types.now m.literals.now leaves)
      (block_code (source_by m) m.captured m.types.now m.literals.now leaves)

  -- ---- arms

  -- an arm, with so many steps of the other arms behind it
  abbrev pub arm_over : Arm → ℕ → ℕ → List Op
  arm_over a passed left =
      let over : List Op = jump_over passed in
      let block : List Op = (block_by (out-Arm a).block).code (length over + (passed + left)) in
      decided_by m false (out-Arm a).condition (length block + length over) ++ (block ++ over)

  -- arms with so many steps behind them
  abbrev pub arms_over : List Arm → ℕ → ℕ → List Op
  arms_over [] passed left = []
  arms_over (a ∷ arms) passed left =
      let rest : List Op = arms_over arms passed left in arm_over a (length rest + passed) left ++ rest

  abbrev pub other_over : Option Block → ℕ → List Op
  other_over None left = []
  other_over (Some b) left = (block_by b).code left

  abbrev pub statements_by : List Statement → ℕ → List Op
  statements_by xs left = in_order (map done_by xs) left

  -- ---- by the form of a statement

  abbrev pub statement_in : Statement-F Statement Arm Block → ℕ → List Op
  statement_in (Statement-F.If arms other) left =
      arms_over arms (length (other_over other left)) left ++ other_over other left
  statement_in (Statement-F.Loop body) left = loop_code (block_by body)
  statement_in (Statement-F.Exit x) left = exited m x left
  statement_in Statement-F.Return left = leaves
  statement_in y left = plain_in m y
