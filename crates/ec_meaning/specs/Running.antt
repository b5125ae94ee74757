-- What a step leaves, over what was still to do behind its item, and what the code answers of it.
use Rattle.std.specs.Prelude.{ℕ, Bool, true, false, not, drop, length, reverse, List, [], ◌∷◌, ◌++◌, Option, Some, None, ℤ, int_lt, int_le}
use Rattle.ec_ast.specs.declared.Comparison.{Comparison}
use Rattle.ec_ast.specs.declared.Comparison.TheVariants.{Less, LessEqual, More, MoreEqual}
use Rattle.ec_base.specs.Stack.{top_of, below_of}
use Rattle.ec_meaning.specs.Meaning.{Reached, behind_loop, defaults, items_if, reached, source_silent}
use Rattle.ec_meaning.specs.Programs.{Source, operation_at}
use Rattle.ec_meaning.specs.Steps.{Step, Goes, Rests, Breaks, Returns, NoCase, types_if}
use Rattle.ec_meaning.specs.declared.activation.SourceActivation.{SourceActivation}
use Rattle.ec_meaning.specs.declared.item.Item.{Item}
use Rattle.ec_meaning.specs.declared.item.Item.TheVariants as i
use Rattle.ec_meaning.specs.declared.settle.AtStop.{AtStop}
use Rattle.ec_meaning.specs.declared.state.Outcome.{Outcome}
use Rattle.ec_meaning.specs.declared.state.Outcome.TheVariants as outcome
use Rattle.ec_meaning.specs.declared.state.State.{State}
use Rattle.ec_world.specs.declared.common.Common.{Common}
use Rattle.ec_world.specs.declared.process.Proc.{Proc}
use Rattle.ec_world.specs.declared.stop.Order.{Order}
use Rattle.ec_world.specs.declared.stop.Order.TheVariants as order
use Rattle.ec_world.specs.declared.stop.Stop.{Stop}
use Rattle.ec_world.specs.declared.value.Value.{Value}
use Rattle.ec_world.specs.declared.value.Value.TheVariants.{Int, Str, Ref, Nil, Bool as Truth}

-- The activation goes on, rests at a stop, or has no case, where only what the world has counts.
pub data After : Type 0 where
  On : State → List Item → After
  Resting : Stop → List Value → State → List Item → After
  Stuck : Common → After

-- a step from a state, with what is to be done behind its item
abbrev pub after : State → List Item → Step → After
after st rest (Goes new more) = On new (more ++ rest)
after st rest (Rests action operands new more) = Resting action operands new (more ++ rest)
after st rest (Breaks new) = On new (behind_loop rest)
after st rest (Returns new) = On new (i.Leave ∷ [])
after st rest NoCase = Stuck st.common

-- an answer of the code, with the state and what is to be done then
abbrev pub came : Outcome → State → List Item → After
came outcome.Goes new items = On new items
came (outcome.Rests action operands) new items = Resting action operands new items
came outcome.NoCase new items = Stuck new.common

-- ---- values that are held

abbrev pub truth_in : Value → Option Bool
truth_in (Truth b) = Some b
truth_in (Int z) = None
truth_in (Str t) = None
truth_in (Ref o) = None
truth_in Nil = None

-- the value held last, where it is a truth
abbrev pub truth_held : Option Value → Option Bool
truth_held None = None
truth_held (Some v) = truth_in v

abbrev pub both : Option Value → Option Value → Option (Value × Value)
both (Some u) (Some v) = Some (u, v)
both None (Some v) = None
both u None = None

-- the two values held last: the one below, and the last one
abbrev pub two_held : List Value → Option (Value × Value)
two_held held = both (top_of (below_of held)) (top_of held)

abbrev pub numbers_in : Value → Value → Option (ℤ × ℤ)
numbers_in (Int a) (Int b) = Some (a, b)
numbers_in _ _ = None

abbrev pub numbers_held : Option (Value × Value) → Option (ℤ × ℤ)
numbers_held None = None
numbers_held (Some (u, v)) = numbers_in u v

-- ---- orders

abbrev pub comparison_of : Order → Comparison
comparison_of order.Less = Less
comparison_of order.LessEqual = LessEqual
comparison_of order.More = More
comparison_of order.MoreEqual = MoreEqual

abbrev pub in_number_order : Order → ℤ → ℤ → Bool
in_number_order order.Less a b = int_lt a b
in_number_order order.LessEqual a b = int_le a b
in_number_order order.More a b = int_lt b a
in_number_order order.MoreEqual a b = int_le b a

-- ---- the next stop

-- an answer of the code's silent steps, with the state and what is to be done then
abbrev pub settled_at : Option AtStop → State → List Item → Common × Option Reached
settled_at None new items = (new.common, None)
settled_at (Some r) new items = (new.common, Some (reached r.stop r.operands new items))

-- ---- behind a stop

-- the variables with which an activation goes on, which had these: at the entry or not
abbrev pub variables_from : Source → ℕ → Bool → List Value → List Value
variables_from s op true vs = vs ++ defaults (drop (length vs) (types_if (operation_at s op)))
variables_from s op false vs = vs

-- the items with which it goes on, which kept these, the next one last
abbrev pub items_from : Source → ℕ → Bool → List Item → List Item
items_from s op true items = items_if s (operation_at s op)
items_from s op false items = reverse items

-- ---- turns

-- whether there is an activation whose action is done
abbrev pub is_done_top : Option SourceActivation → Bool
is_done_top None = false
is_done_top (Some a) = not a.pending

-- what the world has, and a process, once the activation on top has gone on
abbrev pub advanced_top : Source → Common → Proc SourceActivation → Option SourceActivation → Common × Proc SourceActivation
advanced_top s c proc None = (c, proc)
advanced_top s c proc (Some top) = (
  (source_silent s c top).0,
  record proc { activations = below_of proc.activations ++ (source_silent s c top).1 ∷ [] },
)
