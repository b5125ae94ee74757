-- What the source means: the code behind a stop, and the world in which a program begins.
use Rattle.std.specs.Prelude.{ℕ, zero, suc, Bool, true, false, List, [], ◌∷◌, ◌++◌, drop, length, map, reverse, Option, Some, None}
use Rattle.ec_core.specs.declared.Block.{out-Block}
use Rattle.ec_core.specs.declared.Constant.{Constant}
use Rattle.ec_core.specs.declared.Operation.{Operation}
use Rattle.ec_types.specs.declared.conform.static_type.StaticType.{StaticType}
use Rattle.ec_meaning.specs.Activations.{source_meaning}
use Rattle.ec_meaning.specs.Programs.{Source, classes_of, globals_of, operation_at}
use Rattle.ec_meaning.specs.Steps.{Step, Goes, Rests, Breaks, Returns, NoCase, block_items, step, types_if}
use Rattle.ec_meaning.specs.Types.{kind_of}
use Rattle.ec_meaning.specs.Weights.{weight}
use Rattle.ec_meaning.specs.declared.activation.SourceActivation.{SourceActivation}
use Rattle.ec_meaning.specs.declared.item.Item.{Item}
use Rattle.ec_meaning.specs.declared.item.Item.TheVariants as i
use Rattle.ec_meaning.specs.declared.state.State.{State}
use Rattle.ec_meaning.specs.declared.state.Whose.{Whose}
use Rattle.ec_world.specs.declared.common.Common.{Common}
use Rattle.ec_world.specs.declared.stop.Stop.{Stop}
use Rattle.ec_world.specs.declared.stop.Stop.TheVariants as stop
use Rattle.ec_world.specs.declared.value.Value.{Value}
use Rattle.ec_world.specs.declared.world.World.{World}
use Rattle.ec_world.specs.Run.{first_world}
use Rattle.ec_world.specs.Values.{default_of}
use Rattle.ec_world.specs.World.{Turn}

-- ---- what is to do

-- behind the innermost loop
abbrev pub behind_loop : List Item → List Item
behind_loop [] = []
behind_loop (i.Again b ∷ rest) = rest
behind_loop (x ∷ rest) = behind_loop rest

-- ---- silent steps up to the next stop

-- a stop that is reached: its operands, the variables and the values held, and the items behind it
pub record Reached : Type 0 where
  pub action : Stop
  pub operands : List Value
  pub variables : List Value
  pub held : List Value
  pub items : List Item

abbrev pub reached : Stop → List Value → State → List Item → Reached
reached action operands st items =
    record { action = action; operands = operands; variables = st.variables; held = st.held; items = items }

module _ (s : Source) (a : Whose) where
  abbrev pub settle_by : (State → List Item → Common × Option Reached) → State → List Item → Step → Common × Option Reached
  settle_by next st rest (Goes new more) = next new (more ++ rest)
  settle_by next st rest (Rests action operands new more) = (new.common, Some (reached action operands new (more ++ rest)))
  settle_by next st rest (Breaks new) = next new (behind_loop rest)
  settle_by next st rest (Returns new) = next new (i.Leave ∷ [])
  settle_by next st rest NoCase = (st.common, None)

  -- so many steps at most; what the world then has beside its processes, and the stop that is reached, if there is one
  abbrev pub settle : ℕ → State → List Item → Common × Option Reached
  settle zero st items = (st.common, None)
  settle (suc n) st [] = (st.common, None)
  settle (suc n) st (x ∷ rest) = settle_by (settle n) st rest (step s a st x)

-- ---- operations

abbrev pub constant_items : ℕ → List Constant → List Item
constant_items n [] = i.Rest stop.End 0 ∷ []
constant_items n (c ∷ cs) = i.Evaluate c.value ∷ i.Rest (stop.Global n) 1 ∷ constant_items (suc n) cs

-- The program's own operation gives the constants their values in their order.
abbrev pub items_if : Source → Option Operation → List Item
items_if s None = constant_items 0 s.core.constants
items_if s (Some o) = block_items o.block ++ i.Leave ∷ []

abbrev pub defaults : List StaticType → List Value
defaults types = map (λ of. default_of (kind_of of)) types

-- At the entry the variables are the arguments; the others get the defaults of their types.
abbrev pub opened : Source → SourceActivation → List Value
opened s a = a.variables ++ defaults (drop (length a.variables) (types_if (operation_at s a.operation)))

abbrev pub state_behind : Source → Common → SourceActivation → Bool → State
state_behind s c a true = record { common = c; variables = opened s a; held = a.held }
state_behind s c a false = record { common = c; variables = a.variables; held = a.held }

-- The next item of an activation stands last.
abbrev pub items_behind : Source → SourceActivation → Bool → List Item
items_behind s a true = items_if s (operation_at s a.operation)
items_behind s a false = reverse a.items

-- ---- the code behind a stop

abbrev pub whose : SourceActivation → Whose
whose a = record { operation = a.operation; own = a.own }

-- Where there is no case, nothing is left to do.
abbrev pub rested : SourceActivation → Option Reached → SourceActivation
rested a None = record a { pending = false; at_entry = false; variables = []; held = []; items = [] }
rested a (Some r) = record {
  operation = a.operation;
  own = a.own;
  stop = r.action;
  operands = r.operands;
  pending = true;
  at_entry = false;
  variables = r.variables;
  held = r.held;
  items = reverse r.items;
}

abbrev pub resting : SourceActivation → Common × Option Reached → Common × SourceActivation
resting a (c, r) = (c, rested a r)

abbrev pub settled : Source → SourceActivation → State → List Item → Common × SourceActivation
settled s a st items = resting a (settle s (whose a) (weight items) st items)

-- silent steps from behind a stop to the next one
abbrev pub source_silent : Source → Common → SourceActivation → Common × SourceActivation
source_silent s c a = settled s a (state_behind s c a a.at_entry) (items_behind s a a.at_entry)

-- ---- worlds

-- the world in which the program begins, on n nodes
abbrev pub source_start : Source → ℕ → World SourceActivation
source_start s n = first_world source_meaning n (classes_of s) (globals_of s)

-- one turn of a process
abbrev pub source_turn : Source → World SourceActivation → ℕ → World SourceActivation
source_turn s w p = Turn source_meaning (source_silent s) w p
