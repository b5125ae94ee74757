-- The code of statements and operations. `left` is how many steps lie between the end of a statement's code and the place
-- behind the innermost loop around it; an exit passes over them.
use Rattle.std.specs.Prelude.{ℕ, zero, suc, ◌+◌, ◌&&◌, ◌||◌, Bool, true, false, not, List, [], ◌∷◌, ◌++◌, drop, length, map}
use Rattle.std.specs.Prelude.{Option, Some, None, slice_get}
use Rattle.ec_code.specs.declared.code.Op.{Op}
use Rattle.ec_code.specs.declared.code.Op.TheVariants as op
use Rattle.ec_code.specs.declared.code.Operand.{Operand}
use Rattle.ec_code.specs.declared.code.Operand.TheVariants as operand
use Rattle.ec_code.specs.declared.code.StopRow.{StopRow}
use Rattle.ec_code.specs.declared.code.Variable.TheVariants as variable
use Rattle.ec_types.specs.declared.conform.static_type.StaticType.{StaticType}
use Rattle.ec_core.specs.declared.Block.{Block, fold-Block}
use Rattle.ec_core.specs.declared.Constant.{Constant}
use Rattle.ec_core.specs.declared.Expression.{Expression}
use Rattle.ec_core.specs.declared.Kind.{Kind}
use Rattle.ec_core.specs.declared.Kind.TheVariants as kind
use Rattle.ec_core.specs.declared.Operation.{Operation}
use Rattle.ec_core.specs.declared.Place.{Place}
use Rattle.ec_core.specs.declared.Place.TheVariants as place
use Rattle.ec_core.specs.declared.Statement.{Statement, fold-Statement}
use Rattle.ec_core.specs.declared.Statement.TheOpen.{Statement-F, Arm-F, Block-F}
use Rattle.ec_emission.specs.Expressions.{Condition, Emitted, operand_of, operand_code, fits_here, all_fit, all_code, emitted}
use Rattle.ec_emission.specs.Expressions.{literal_number, has_text}
use Rattle.ec_meaning.specs.Programs.{Source, line}
use Rattle.ec_meaning.specs.Steps.{default_if}
use Rattle.ec_meaning.specs.Types.{kind_of}
use Rattle.ec_emission.specs.Rows.{bare_row, rest_row, fail_row, return_row}
use Rattle.ec_world.specs.Values.{default_of}
use Rattle.ec_world.specs.declared.process.Cause.TheVariants as cause
use Rattle.ec_world.specs.declared.stop.Stop.{Stop}
use Rattle.ec_world.specs.declared.stop.Stop.TheVariants as stop
use Rattle.ec_world.specs.declared.value.Value.{Value}
use Rattle.ec_world.specs.declared.value.Value.TheVariants as value

-- the code of statements, by what lies between its end and the place behind the innermost loop; whether each expression
-- within gives a value where one is wanted, and each text within is one of the literals; and whether an exit within would
-- leave a loop around them
pub record Done : Type 0 where
  pub code : (left : ℕ) → List Op
  pub fits : Bool
  pub exits : Bool

abbrev pub all_done : List Done → Bool
all_done [] = true
all_done (d ∷ ds) = d.fits && all_done ds

abbrev pub some_exit : List Done → Bool
some_exit [] = false
some_exit (d ∷ ds) = d.exits || some_exit ds

-- one behind the other
abbrev pub in_order : List Done → ℕ → List Op
in_order [] left = []
in_order (d ∷ ds) left = let rest : List Op = in_order ds left in d.code (length rest + left) ++ rest

-- steps are passed over, if there are any
abbrev pub jump_over : ℕ → List Op
jump_over zero = []
jump_over (suc k) = op.Jump (suc k) ∷ []

-- code with a step behind it that takes what it leaves
abbrev pub unless : Condition → ℕ → Op
unless c over = op.Branch c.asks (not c.wanted) over

abbrev pub where_it_holds : Condition → ℕ → Op
where_it_holds c over = op.Branch c.asks c.wanted over

-- an arm: its condition, and its block
pub record Choice : Type 0 where
  pub condition : Condition
  pub block : Done
  pub fits : Bool

-- behind a block of an arm the rest of the arms is passed over
abbrev pub arm_code : Choice → List Op → ℕ → List Op
arm_code a rest left =
    let over : List Op = jump_over (length rest) in
    let block : List Op = a.block.code (length over + (length rest + left)) in
    a.condition.code ++ unless a.condition (length block + length over) ∷ (block ++ (over ++ rest))

abbrev pub arms_code : List Choice → Option Done → ℕ → List Op
arms_code [] None left = []
arms_code [] (Some other) left = other.code left
arms_code (a ∷ arms) other left = arm_code a (arms_code arms other left) left

abbrev pub all_choices : List Choice → Bool
all_choices [] = true
all_choices (a ∷ arms) = a.fits && all_choices arms

abbrev pub other_fits : Option Done → Bool
other_fits None = true
other_fits (Some other) = other.fits

abbrev pub some_choice_exits : List Choice → Option Done → Bool
some_choice_exits [] None = false
some_choice_exits [] (Some other) = other.exits
some_choice_exits (a ∷ arms) other = a.block.exits || some_choice_exits arms other

-- The body of a loop stands behind its loop top; an exit passes over the step that leads back.
abbrev pub loop_code : Done → List Op
loop_code body =
    let inner : List Op = body.code 1 in
    op.Rest (bare_row stop.LoopTop) ∷ (inner ++ op.Again (suc (length inner)) ∷ [])

-- A text has to be one of the literals; no variable begins as an object.
abbrev pub is_given : List (List ℕ) → Value → Bool
is_given literals (value.Str text) = has_text literals text
is_given literals (value.Ref oid) = false
is_given literals _ = true

abbrev pub are_given : List (List ℕ) → List StaticType → Bool
are_given literals [] = true
are_given literals (t ∷ ts) = is_given literals (default_of (kind_of t)) && are_given literals ts

module _ (s : Source) (captured : ℕ) (types : List StaticType) (literals : List (List ℕ)) (leaves : List Op) where
  abbrev pub value_of : Expression → Emitted
  value_of x = emitted s captured (length types) literals x

  -- code that doesn't leave a loop
  abbrev pub stays : Bool → List Op → Done
  stays fits code = record { code = λ left. code; fits = fits; exits = false }

  -- a stop that takes the values of these expressions
  abbrev pub stop_with : List Expression → Stop → Done
  stop_with xs action =
      let values : List Emitted = map value_of xs in
      stays (all_fit values) (all_code values 0 ++ op.Rest (rest_row action 0 (length xs) None) ∷ [])

  -- what goes into a place; captured names and constants get nothing
  abbrev pub store : Place → Operand → List Op
  store (place.Variable n) from = op.Copy (variable.Named n) from ∷ []
  store (place.Field n) from = op.SetField (captured + n) from ∷ []
  store (place.Captured n) from = []
  store (place.Constant n) from = []

  abbrev pub stored : Place → Emitted → Done
  stored p x = stays (fits_here x) (operand_code x 0 ++ store p (operand_of x 0))

  -- a variable gets a value that no expression gives
  abbrev pub given : ℕ → Value → List Op
  given n (value.Int z) = op.Copy (variable.Named n) (operand.Number z) ∷ []
  given n (value.Bool b) = op.Copy (variable.Named n) (operand.Truth b) ∷ []
  given n (value.Str text) = op.Literal (variable.Named n) (literal_number s captured (length types) literals text) ∷ []
  given n value.Nil = op.Copy (variable.Named n) operand.Nil ∷ []
  given n (value.Ref oid) = op.Copy (variable.Named n) operand.Nil ∷ []

  -- a variable gets its default
  abbrev pub reset : ℕ → Value → Done
  reset n v = stays (is_given literals v) (given n v)

  abbrev pub conditional : Emitted → (Condition → ℕ → List Op) → Bool → Done
  conditional x act exits =
      let c : Condition = x.condition 0 in record { code = λ left. c.code ++ act c left; fits = fits_here x; exits = exits }

  -- The stop of a failing assertion stands right behind its test.
  abbrev pub required : ℕ → Condition → ℕ → List Op
  required at c left = where_it_holds c 1 ∷ op.Rest (fail_row cause.FalseAssertion at) ∷ []

  abbrev pub statement_code : Statement-F Done Choice Done → Done
  statement_code (Statement-F.Declare n None) = reset n (default_if (slice_get types n))
  statement_code (Statement-F.Declare n (Some x)) = stored (place.Variable n) (value_of x)
  statement_code (Statement-F.Assign p x) = stored p (value_of x)
  statement_code (Statement-F.SetElement vector number x at) =
      stop_with (vector ∷ number ∷ x ∷ []) (stop.Set (line s at))
  statement_code (Statement-F.Drop x) = stays (value_of x).fits ((value_of x).code 0)
  statement_code (Statement-F.Print x) = stop_with (x ∷ []) stop.Print
  statement_code (Statement-F.If arms other) =
      record { code = arms_code arms other; fits = all_choices arms && other_fits other; exits = some_choice_exits arms other }
  statement_code (Statement-F.Loop body) = stays body.fits (loop_code body)
  statement_code (Statement-F.Exit None) = record { code = λ left. op.Jump left ∷ []; fits = true; exits = true }
  statement_code (Statement-F.Exit (Some x)) = conditional (value_of x) (λ c left. where_it_holds c left ∷ []) true
  statement_code Statement-F.Return = stays true leaves
  statement_code (Statement-F.Assert x at) = conditional (value_of x) (required (line s at)) false
  statement_code (Statement-F.Move x to at) = stop_with (x ∷ to ∷ []) (stop.Move (line s at))
  statement_code (Statement-F.Fix x to at) = stop_with (x ∷ to ∷ []) (stop.Fix (line s at))
  statement_code (Statement-F.Refix x to at) = stop_with (x ∷ to ∷ []) (stop.Refix (line s at))
  statement_code (Statement-F.Unfix x at) = stop_with (x ∷ []) (stop.Unfix (line s at))
  statement_code (Statement-F.Wait n) = stays true (op.Rest (bare_row (stop.Wait n)) ∷ [])
  statement_code (Statement-F.Signal n) = stays true (op.Rest (bare_row (stop.Signal n)) ∷ [])

  abbrev pub choice_code : Arm-F Done Choice Done → Choice
  choice_code a = record {
    condition = (value_of a.condition).condition 0;
    block = a.block;
    fits = fits_here (value_of a.condition) && a.block.fits;
  }

  abbrev pub block_code : Block-F Done Choice Done → Done
  block_code b = record { code = in_order b.statements; fits = all_done b.statements; exits = some_exit b.statements }

  abbrev pub done_of : Statement → Done
  done_of = fold-Statement Done Choice Done statement_code choice_code block_code

  abbrev pub block_of : Block → Done
  block_of = fold-Block Done Choice Done statement_code choice_code block_code

  -- The variables that aren't parameters get the defaults of their types, the first of them by its number.
  abbrev pub defaults_from : ℕ → List StaticType → List Op
  defaults_from n [] = []
  defaults_from n (t ∷ ts) = given n (default_of (kind_of t)) ++ defaults_from (suc n) ts

-- ---- operations

abbrev pub result_of : Bool → ℕ → StopRow
result_of true n = return_row n
result_of false n = bare_row (stop.Return false)

-- the end of an operation
abbrev pub leave_row : Kind → Operation → StopRow
leave_row kind.Named o = result_of o.has_result o.parameters
leave_row kind.Initial o = bare_row (stop.Return true)
leave_row kind.Process o = bare_row stop.End

abbrev pub entry : Op
entry = op.Rest (bare_row stop.Entry)

abbrev pub leave_ops : Operation → List Op
leave_ops o = op.Rest (leave_row o.kind o) ∷ []

-- What follows is of an operation of an object whose class captures so many names.
abbrev pub default_ops : Source → ℕ → List (List ℕ) → Operation → List Op
default_ops s captured literals o =
    defaults_from s captured o.variables literals (leave_ops o) o.parameters (drop o.parameters o.variables)

abbrev pub body_done : Source → ℕ → List (List ℕ) → Operation → Done
body_done s captured literals o = block_of s captured o.variables literals (leave_ops o) o.block

abbrev pub operation_ops : Source → ℕ → List (List ℕ) → Operation → List Op
operation_ops s captured literals o =
    entry ∷ (default_ops s captured literals o ++ ((body_done s captured literals o).code 0 ++ leave_ops o))

-- whether each expression gives a value where one is wanted, each text is one of the literals, and each exit stands in a loop
abbrev pub operation_fits : Source → ℕ → List (List ℕ) → Operation → Bool
operation_fits s captured literals o =
    let body : Done = body_done s captured literals o in
    body.fits && (not body.exits && are_given literals (drop o.parameters o.variables))

-- the code of the program's own operation: each constant in turn
abbrev pub constant_ops : Source → List (List ℕ) → ℕ → List Constant → List Op
constant_ops s literals n [] = op.Rest (bare_row stop.End) ∷ []
constant_ops s literals n (c ∷ cs) =
    (emitted s 0 0 literals c.value).code 0
    ++ op.Rest (rest_row (stop.Global n) 0 1 None)
    ∷ constant_ops s literals (suc n) cs

abbrev pub program_ops : Source → List (List ℕ) → List Op
program_ops s literals = entry ∷ constant_ops s literals 0 s.core.constants

abbrev pub program_fits : Source → List (List ℕ) → List Constant → Bool
program_fits s literals [] = true
program_fits s literals (c ∷ cs) = fits_here (emitted s 0 0 literals c.value) && program_fits s literals cs
