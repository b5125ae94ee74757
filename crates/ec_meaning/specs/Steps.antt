-- Silent steps: a case on the first thing that is still to do (Jul, Levy, Hutchinson, Black 1988; the Emerald report).
-- Evaluation goes from left to right; `and` and `or` evaluate their right sides where they are needed. Nothing here knows
-- registers, addresses, an order of bytes, or places.
use Rattle.std.specs.Prelude.{ℕ, zero, suc, ◌+◌, ◌-◌, ◌==◌, Bool, true, false, not, if◌then◌else◌, List, [], ◌∷◌, ◌++◌, map, length}
use Rattle.std.specs.Prelude.{take, drop}
use Rattle.std.specs.Prelude.{Option, Some, None, slice_get, slice_set, nat_le, ℤ, pos, negsuc, int_lt, int_le, int_rem}
use Rattle.std.specs.Int.{w32, int_wrapping_add, int_wrapping_sub, int_wrapping_mul, int_wrapping_div, int_wrapping_neg}
use Rattle.ec_ast.specs.declared.Additive.{Additive}
use Rattle.ec_ast.specs.declared.Additive.TheVariants.{Plus, Minus, Concat}
use Rattle.ec_ast.specs.declared.Comparison.{Comparison}
use Rattle.ec_ast.specs.declared.Comparison.TheVariants.{Same, NotSame, Equal, NotEqual, Less, LessEqual, More, MoreEqual}
use Rattle.ec_ast.specs.declared.Multiplicative.{Multiplicative}
use Rattle.ec_ast.specs.declared.Multiplicative.TheVariants as product
use Rattle.ec_core.specs.declared.Addend.{Addend, out-Addend}
use Rattle.ec_core.specs.declared.Arm.{Arm, out-Arm}
use Rattle.ec_core.specs.declared.Block.{Block, out-Block}
use Rattle.ec_core.specs.declared.Builtin.{Builtin}
use Rattle.ec_core.specs.declared.Builtin.TheVariants as builtin
use Rattle.ec_core.specs.declared.Class.{Class}
use Rattle.ec_core.specs.declared.Compared.{Compared}
use Rattle.ec_core.specs.declared.Compared.TheVariants as compared
use Rattle.ec_core.specs.declared.Core.{Core}
use Rattle.ec_core.specs.declared.Expression.{Expression, out-Expression}
use Rattle.ec_core.specs.declared.Expression.TheOpen.{Expression-F, Link-F}
use Rattle.ec_core.specs.declared.Expression.TheVariants as e
use Rattle.ec_core.specs.declared.Factor.{Factor, out-Factor}
use Rattle.ec_core.specs.declared.Kind.{Kind}
use Rattle.ec_core.specs.declared.Kind.TheVariants as kind
use Rattle.ec_core.specs.declared.Link.{Link, out-Link}
use Rattle.ec_core.specs.declared.Operation.{Operation}
use Rattle.ec_core.specs.declared.Place.{Place}
use Rattle.ec_core.specs.declared.Place.TheVariants as place
use Rattle.ec_core.specs.declared.Statement.{Statement, out-Statement}
use Rattle.ec_core.specs.declared.Statement.TheOpen.{Statement-F}
use Rattle.ec_base.specs.Stack.{top_of, below_of}
use Rattle.ec_types.specs.declared.conform.static_type.StaticType.{StaticType}
use Rattle.ec_meaning.specs.Programs.{Source, line, name_number, class_number, constant_number, operation_at}
use Rattle.ec_meaning.specs.Types.{kind_of, vector_type, viewed_as}
use Rattle.ec_meaning.specs.declared.item.Item.{Item}
use Rattle.ec_meaning.specs.declared.item.Item.TheVariants as i
use Rattle.ec_meaning.specs.declared.state.State.{State}
use Rattle.ec_meaning.specs.declared.state.Whose.{Whose}
use Rattle.ec_types.specs.Names.{Text}
use Rattle.ec_world.specs.Same.{are_same, is_same_truth}
use Rattle.ec_world.specs.declared.class.ClassNo.{ClassNo}
use Rattle.ec_world.specs.declared.class.ClassNo.TheVariants.{Node, Program, Made, Vector}
use Rattle.ec_world.specs.declared.common.Common.{Common}
use Rattle.ec_world.specs.declared.object.ObjectRec.{ObjectRec}
use Rattle.ec_world.specs.declared.process.Cause.TheVariants as cause
use Rattle.ec_world.specs.declared.stop.Order.TheVariants as order
use Rattle.ec_world.specs.declared.stop.Stop.{Stop}
use Rattle.ec_world.specs.declared.stop.Stop.TheVariants as stop
use Rattle.ec_world.specs.declared.value.Value.{Value}
use Rattle.ec_world.specs.declared.value.Value.TheVariants.{Int, Str, Ref, Nil, Bool as Truth}
use Rattle.ec_world.specs.Outcomes.{with_element}
use Rattle.ec_world.specs.Objects.{object_at, changed_object}
use Rattle.ec_world.specs.Values.{default_of}

-- ---- what steps read and write

-- `State` is what the world has beside its processes, the variables of the operation, and the values that are held, the last one
-- last; `Whose` is the operation and the own object of the activation.

-- ---- places

abbrev pub captured_in : Option Class → ℕ
captured_in None = 0
captured_in (Some c) = length c.captured

abbrev pub captured_by : Source → ClassNo → ℕ
captured_by s (Made k) = captured_in (slice_get s.core.classes k)
captured_by s Node = 0
captured_by s Program = 0
captured_by s (Vector of) = 0

abbrev pub captured_of : Source → Option ObjectRec → ℕ
captured_of s None = 0
captured_of s (Some o) = captured_by s o.class

-- An object keeps the names that it captures before its fields.
abbrev pub field_number : Source → Common → ℕ → ℕ → ℕ
field_number s c own n = captured_of s (object_at c.objects own) + n

abbrev pub field_if : Option ObjectRec → ℕ → Option Value
field_if None n = None
field_if (Some o) n = slice_get o.fields n

abbrev pub value_at : Source → ℕ → State → Place → Option Value
value_at s own st (place.Variable n) = slice_get st.variables n
value_at s own st (place.Captured n) = field_if (object_at st.common.objects own) n
value_at s own st (place.Field n) = field_if (object_at st.common.objects own) (field_number s st.common own n)
value_at s own st (place.Constant n) = slice_get st.common.globals (constant_number s n)

abbrev pub with_field : Common → ℕ → ℕ → Value → Common
with_field c own n v = record c { objects = changed_object c.objects own (with_element n v) }

-- What is captured and the constants aren't stored by an operation.
abbrev pub stored : Source → ℕ → State → Place → Value → State
stored s own st (place.Variable n) v = record st { variables = slice_set st.variables n v }
stored s own st (place.Field n) v = record st { common = with_field st.common own (field_number s st.common own n) v }
stored s own st (place.Captured n) v = st
stored s own st (place.Constant n) v = st

abbrev pub default_if : Option StaticType → Value
default_if None = Nil
default_if (Some of) = default_of (kind_of of)

abbrev pub types_if : Option Operation → List StaticType
types_if None = []
types_if (Some o) = o.variables

-- the default of a variable of an operation
abbrev pub default_at : Source → ℕ → ℕ → Value
default_at s op n = default_if (slice_get (types_if (operation_at s op)) n)

-- ---- what a step comes to

-- These are to be done next, in this order; the activation rests at a stop with operands, and these are next behind it; the
-- innermost loop is left; nothing is left to do but the end of the operation; or there is no case.
pub data Step : Type 0 where
  Goes : State → List Item → Step
  Rests : Stop → List Value → State → List Item → Step
  Breaks : State → Step
  Returns : State → Step
  NoCase : Step

abbrev pub pushed : State → Value → State
pushed st v = record st { held = st.held ++ v ∷ [] }

abbrev pub gives : State → Value → Step
gives st v = Goes (pushed st v) []

abbrev pub gives_if : State → Option Value → Step
gives_if st None = NoCase
gives_if st (Some v) = gives st v

abbrev pub holding : State → List Value → State
holding st held = record st { held = held }

-- ---- expressions

abbrev pub evaluated : List Expression → List Item
evaluated xs = map i.Evaluate xs

-- The order of texts is a stop's; every other comparison is one of values.
abbrev pub comparing : Comparison → Compared → Item
comparing Less compared.Texts = i.Rest (stop.Compare order.Less) 2
comparing LessEqual compared.Texts = i.Rest (stop.Compare order.LessEqual) 2
comparing More compared.Texts = i.Rest (stop.Compare order.More) 2
comparing MoreEqual compared.Texts = i.Rest (stop.Compare order.MoreEqual) 2
comparing op what = i.Compare op

abbrev pub evaluate : Source → Whose → State → Expression-F Expression Link Addend Factor → Step
evaluate s a st (Expression-F.Number n) = gives st (Int (pos n))
evaluate s a st (Expression-F.Literal text) = gives st (Str text)
evaluate s a st (Expression-F.Truth b) = gives st (Truth b)
evaluate s a st Expression-F.Nil = gives st Nil
evaluate s a st Expression-F.Itself = gives st (Ref a.own)
evaluate s a st (Expression-F.Read p) = gives_if st (value_at s a.own st p)
evaluate s a st Expression-F.NodeCount = Goes st (i.Rest stop.NodeCount 0 ∷ [])
evaluate s a st (Expression-F.NodeAt x at) = Goes st (i.Evaluate x ∷ i.Rest (stop.NodeAt (line s at)) 1 ∷ [])
evaluate s a st (Expression-F.NewVector of x at) =
    Goes st (i.Evaluate x ∷ i.Rest (stop.NewVector (vector_type of) (line s at)) 1 ∷ [])
evaluate s a st (Expression-F.Construct class places) =
    Goes st (map (λ p. i.Evaluate (e.Read p)) places ++ i.Rest (stop.New (class_number s class)) (length places) ∷ [])
evaluate s a st (Expression-F.Create class xs) =
    Goes st (evaluated xs ++ i.Rest (stop.New (class_number s class)) (length xs) ∷ [])
evaluate s a st (Expression-F.Chain head links) = Goes st (i.Evaluate head ∷ map i.Follow links)
evaluate s a st (Expression-F.Negative x) = Goes st (i.Evaluate x ∷ i.Negate ∷ [])
evaluate s a st (Expression-F.Not x) = Goes st (i.Evaluate x ∷ i.Invert ∷ [])
evaluate s a st (Expression-F.View x of at) =
    Goes st (i.Evaluate x ∷ i.Rest (stop.View (viewed_as s.table of) (line s at)) 1 ∷ [])
evaluate s a st (Expression-F.IsFixed x at) = Goes st (i.Evaluate x ∷ i.Rest (stop.IsFixed (line s at)) 1 ∷ [])
evaluate s a st (Expression-F.Term first factors) = Goes st (i.Evaluate first ∷ map i.Multiply factors)
evaluate s a st (Expression-F.Sum first addends) = Goes st (i.Evaluate first ∷ map i.Add addends)
evaluate s a st (Expression-F.Compare left op what right) = Goes st (i.Evaluate left ∷ i.Evaluate right ∷ comparing op what ∷ [])
evaluate s a st (Expression-F.And first more) = Goes st (i.Evaluate first ∷ map i.AndThen more)
evaluate s a st (Expression-F.Or first more) = Goes st (i.Evaluate first ∷ map i.OrElse more)

abbrev pub stop_of : Builtin → ℕ → Stop
stop_of builtin.AsString line = stop.AsString
stop_of builtin.Length line = stop.Length
stop_of builtin.GetSlice line = stop.GetSlice line
stop_of builtin.Size line = stop.Size line

-- The receiver is held; the arguments follow it, and then the stop.
abbrev pub follow : Source → State → Link-F Expression Link Addend Factor → Step
follow s st (Link-F.Invoke name xs result at) =
    Goes st (evaluated xs ++ i.Rest (stop.Invoke (name_number s name) (line s at)) (1 + length xs) ∷ [])
follow s st (Link-F.Call b xs at) = Goes st (evaluated xs ++ i.Rest (stop_of b (line s at)) (1 + length xs) ∷ [])
follow s st (Link-F.Element x of at) = Goes st (i.Evaluate x ∷ i.Rest (stop.Get (line s at)) 2 ∷ [])

-- ---- statements and blocks

abbrev pub block_items : Block → List Item
block_items b = map i.Do (out-Block b).statements

abbrev pub block_if : Option Block → List Item
block_if None = []
block_if (Some b) = block_items b

abbrev pub do_statement : Source → Whose → State → Statement-F Statement Arm Block → Step
do_statement s a st (Statement-F.Declare n None) = Goes (stored s a.own st (place.Variable n) (default_at s a.operation n)) []
do_statement s a st (Statement-F.Declare n (Some x)) = Goes st (i.Evaluate x ∷ i.Store (place.Variable n) ∷ [])
do_statement s a st (Statement-F.Assign p x) = Goes st (i.Evaluate x ∷ i.Store p ∷ [])
do_statement s a st (Statement-F.SetElement vector number x at) =
    Goes st (i.Evaluate vector ∷ i.Evaluate number ∷ i.Evaluate x ∷ i.Rest (stop.Set (line s at)) 3 ∷ [])
do_statement s a st (Statement-F.Drop x) = Goes st (i.Evaluate x ∷ i.Discard ∷ [])
do_statement s a st (Statement-F.Print x) = Goes st (i.Evaluate x ∷ i.Rest stop.Print 1 ∷ [])
do_statement s a st (Statement-F.If arms other) = Goes st (i.Choose arms other ∷ [])
do_statement s a st (Statement-F.Loop b) = Goes st (i.Again b ∷ [])
do_statement s a st (Statement-F.Exit None) = Breaks st
do_statement s a st (Statement-F.Exit (Some x)) = Goes st (i.Evaluate x ∷ i.ExitIf ∷ [])
do_statement s a st Statement-F.Return = Returns st
do_statement s a st (Statement-F.Assert x at) = Goes st (i.Evaluate x ∷ i.Require at ∷ [])
do_statement s a st (Statement-F.Move x to at) = Goes st (i.Evaluate x ∷ i.Evaluate to ∷ i.Rest (stop.Move (line s at)) 2 ∷ [])
do_statement s a st (Statement-F.Fix x to at) = Goes st (i.Evaluate x ∷ i.Evaluate to ∷ i.Rest (stop.Fix (line s at)) 2 ∷ [])
do_statement s a st (Statement-F.Refix x to at) = Goes st (i.Evaluate x ∷ i.Evaluate to ∷ i.Rest (stop.Refix (line s at)) 2 ∷ [])
do_statement s a st (Statement-F.Unfix x at) = Goes st (i.Evaluate x ∷ i.Rest (stop.Unfix (line s at)) 1 ∷ [])
do_statement s a st (Statement-F.Wait n) = Rests (stop.Wait n) [] st []
do_statement s a st (Statement-F.Signal n) = Rests (stop.Signal n) [] st []

-- the first arm whose condition holds
abbrev pub choose : State → List Arm → Option Block → Step
choose st [] other = Goes st (block_if other)
choose st (arm ∷ arms) other =
    Goes st (i.Evaluate (out-Arm arm).condition ∷ i.Branch (out-Arm arm).block arms other ∷ [])

-- ---- with the values that are held

-- the value held last
abbrev pub with_last : State → (State → Value → Step) → Option Value → Step
with_last st go None = NoCase
with_last st go (Some v) = go (holding st (below_of st.held)) v

abbrev pub last : State → (State → Value → Step) → Step
last st go = with_last st go (top_of st.held)

-- the two values held last
abbrev pub last_two : State → (State → Value → Value → Step) → Step
last_two st go = last st (λ below v. last below (λ under u. go under u v))

-- a truth
abbrev pub by_truth : Value → Step → Step → Step
by_truth (Truth true) yes_step no_step = yes_step
by_truth (Truth false) yes_step no_step = no_step
by_truth (Int z) yes_step no_step = NoCase
by_truth (Str t) yes_step no_step = NoCase
by_truth (Ref o) yes_step no_step = NoCase
by_truth Nil yes_step no_step = NoCase

abbrev pub and_then : State → Expression → State → Value → Step
and_then st x below v = by_truth v (Goes below (i.Evaluate x ∷ [])) (Goes st [])

abbrev pub or_else : State → Expression → State → Value → Step
or_else st x below v = by_truth v (Goes st []) (Goes below (i.Evaluate x ∷ []))

abbrev pub branch : Block → List Arm → Option Block → State → Value → Step
branch b arms other below v = by_truth v (Goes below (block_items b)) (Goes below (i.Choose arms other ∷ []))

abbrev pub exit_if : State → Value → Step
exit_if below v = by_truth v (Breaks below) (Goes below [])

abbrev pub require : Source → ℕ → State → Value → Step
require s at below v = by_truth v (Goes below []) (Rests (stop.Fail cause.FalseAssertion (line s at)) [] below [])

abbrev pub invert : State → Value → Step
invert below v = by_truth v (gives below (Truth false)) (gives below (Truth true))

abbrev pub negate : State → Value → Step
negate below (Int z) = gives below (Int (int_wrapping_neg w32 z))
negate below _ = NoCase

abbrev pub store : Source → ℕ → Place → State → Value → Step
store s own p below v = Goes (stored s own below p v) []

-- A quotient is truncated towards 0; the remainder is that of this quotient. Results wrap.
abbrev pub calculated : Multiplicative → ℤ → ℤ → ℤ
calculated product.Times a b = int_wrapping_mul w32 a b
calculated product.Over a b = int_wrapping_div w32 a b
calculated product.Remainder a b = int_rem a b

abbrev pub is_zero : ℤ → Bool
is_zero (pos zero) = true
is_zero (pos (suc n)) = false
is_zero (negsuc n) = false

abbrev pub divides : Multiplicative → Bool
divides product.Times = false
divides product.Over = true
divides product.Remainder = true

abbrev pub calculate : Source → Multiplicative → ℕ → State → Value → Value → Step
calculate s op at under (Int a) (Int b) =
    if if divides op then is_zero b else false then Rests (stop.Fail cause.ZeroDivisor (line s at)) [] under []
    else gives under (Int (calculated op a b))
calculate s op at under _ _ = NoCase

-- A text behind another is a stop's.
abbrev pub join : Source → Additive → ℕ → State → State → Value → Value → Step
join s Concat at st under u v = Goes st (i.Rest (stop.Concat (line s at)) 2 ∷ [])
join s Plus at st under (Int a) (Int b) = gives under (Int (int_wrapping_add w32 a b))
join s Minus at st under (Int a) (Int b) = gives under (Int (int_wrapping_sub w32 a b))
join s _ at st under _ _ = NoCase

-- ---- comparisons

abbrev pub same_or_not : State → Bool → Option Bool → Step
same_or_not under wanted None = NoCase
same_or_not under wanted (Some b) = gives under (Truth (is_same_truth wanted b))

-- Of texts whether they are the same; an order is one of numbers.
abbrev pub compare : Comparison → State → Value → Value → Step
compare Same under u v = same_or_not under true (are_same u v)
compare NotSame under u v = same_or_not under false (are_same u v)
compare Equal under u v = same_or_not under true (are_same u v)
compare NotEqual under u v = same_or_not under false (are_same u v)
compare Less under (Int a) (Int b) = gives under (Truth (int_lt a b))
compare LessEqual under (Int a) (Int b) = gives under (Truth (int_le a b))
compare More under (Int a) (Int b) = gives under (Truth (int_lt b a))
compare MoreEqual under (Int a) (Int b) = gives under (Truth (int_le b a))
compare _ under _ _ = NoCase

-- ---- stops

-- so many values, held last
abbrev pub rest_at : Stop → ℕ → State → Step
rest_at action n st =
    if nat_le n (length st.held) then
    Rests action (drop (length st.held - n) st.held) (holding st (take (length st.held - n) st.held)) []
    else NoCase

abbrev pub returned : State → Bool → Option Value → Step
returned st true None = NoCase
returned st true (Some v) = Rests (stop.Return false) (v ∷ []) st []
returned st false v = Rests (stop.Return false) [] st []

-- The end of an operation: it gives the value that its result has then; operation 0 of a class gives the object. The program's own
-- operation and process sections end their process.
abbrev pub leave_by : Kind → Operation → State → Step
leave_by kind.Named o st = returned st o.has_result (slice_get st.variables o.parameters)
leave_by kind.Initial o st = Rests (stop.Return true) [] st []
leave_by kind.Process o st = Rests stop.End [] st []

abbrev pub leave : Option Operation → State → Step
leave None st = Rests stop.End [] st []
leave (Some o) st = leave_by o.kind o st

-- ---- one step

abbrev pub step : Source → Whose → State → Item → Step
step s a st (i.Do x) = do_statement s a st (out-Statement x)
step s a st (i.Evaluate x) = evaluate s a st (out-Expression x)
step s a st (i.Follow l) = follow s st (out-Link l)
step s a st (i.Multiply f) =
    Goes st (i.Evaluate (out-Factor f).value ∷ i.Calculate (out-Factor f).operator (out-Factor f).at ∷ [])
step s a st (i.Add d) = Goes st (i.Evaluate (out-Addend d).value ∷ i.Join (out-Addend d).operator (out-Addend d).at ∷ [])
step s a st (i.AndThen x) = last st (and_then st x)
step s a st (i.OrElse x) = last st (or_else st x)
step s a st (i.Choose arms other) = choose st arms other
-- A loop rests before each of its turns.
step s a st (i.Again b) = Rests stop.LoopTop [] st (block_items b ++ i.Again b ∷ [])
step s a st (i.Rest action takes) = rest_at action takes st
step s a st (i.Calculate op at) = last_two st (calculate s op at)
step s a st (i.Join op at) = last_two st (join s op at st)
step s a st i.Negate = last st negate
step s a st i.Invert = last st invert
step s a st (i.Compare op) = last_two st (compare op)
step s a st (i.Branch b arms other) = last st (branch b arms other)
step s a st i.ExitIf = last st exit_if
step s a st (i.Store p) = last st (store s a.own p)
step s a st i.Discard = Goes (holding st []) []
step s a st (i.Require at) = last st (require s at)
step s a st i.Leave = leave (operation_at s a.operation) st
