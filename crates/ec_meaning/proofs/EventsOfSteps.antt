-- No silent step reads events, or adds one.
use Rattle.std.proofs.Common.{◌≡◌, ℕ, zero, suc, ◌-◌, Bool, true, false, if◌then◌else◌, List, [], ◌∷◌, ◌++◌, length, take, drop}
use Rattle.std.proofs.Common.{Option, Some, None, refl, ap, ◌∙◌}
use Rattle.std.specs.Prelude.{slice_get, nat_le}
use Rattle.ec_ast.specs.declared.Additive.{Additive}
use Rattle.ec_ast.specs.declared.Additive.TheVariants.{Plus, Minus, Concat}
use Rattle.ec_ast.specs.declared.Comparison.{Comparison}
use Rattle.ec_ast.specs.declared.Comparison.TheVariants.{Same, NotSame, Equal, NotEqual, Less, LessEqual, More, MoreEqual}
use Rattle.ec_ast.specs.declared.Multiplicative.{Multiplicative}
use Rattle.ec_base.specs.Stack.{top_of, below_of}
use Rattle.ec_core.specs.declared.Addend.{Addend}
use Rattle.ec_core.specs.declared.Arm.{Arm}
use Rattle.ec_core.specs.declared.Block.{Block}
use Rattle.ec_core.specs.declared.Expression.{Expression, out-Expression}
use Rattle.ec_core.specs.declared.Expression.TheOpen.{Expression-F, Link-F}
use Rattle.ec_core.specs.declared.Factor.{Factor}
use Rattle.ec_core.specs.declared.Kind.{Kind}
use Rattle.ec_core.specs.declared.Kind.TheVariants as kind
use Rattle.ec_core.specs.declared.Link.{Link, out-Link}
use Rattle.ec_core.specs.declared.Operation.{Operation}
use Rattle.ec_core.specs.declared.Place.{Place}
use Rattle.ec_core.specs.declared.Place.TheVariants as place
use Rattle.ec_core.specs.declared.Statement.{Statement, out-Statement}
use Rattle.ec_core.specs.declared.Statement.TheOpen.{Statement-F}
use Rattle.ec_meaning.specs.Meaning.{Reached, behind_loop, settle, settle_by}
use Rattle.ec_meaning.specs.Programs.{Source, operation_at, line}
use Rattle.ec_meaning.specs.Steps.{Step, Goes, Rests, Breaks, Returns, NoCase, evaluate, follow, do_statement, choose, block_items}
use Rattle.ec_meaning.specs.Steps.{step, value_at, stored, gives, gives_if}
use Rattle.ec_meaning.specs.Steps.{holding, with_last, last, last_two, by_truth, and_then, or_else, branch, exit_if, require}
use Rattle.ec_meaning.specs.Steps.{invert, negate, store, calculate, calculated, divides, is_zero}
use Rattle.ec_world.specs.Same.{are_same}
use Rattle.ec_meaning.specs.Steps.{join, same_or_not, compare, returned, leave_by, leave}
use Rattle.ec_meaning.specs.declared.item.Item.{Item}
use Rattle.ec_meaning.specs.declared.item.Item.TheVariants as i
use Rattle.ec_meaning.specs.declared.state.State.{State}
use Rattle.ec_meaning.specs.declared.state.Whose.{Whose}
use Rattle.ec_meaning.proofs.EventsOfStops.{rebased}
use Rattle.ec_world.specs.declared.common.Common.{Common}
use Rattle.ec_world.specs.declared.event.Event.{Event}
use Rattle.ec_world.specs.declared.process.Cause.TheVariants as cause
use Rattle.ec_world.specs.declared.stop.Stop.TheVariants as stop
use Rattle.ec_world.specs.declared.value.Value.{Value}
use Rattle.ec_world.specs.declared.value.Value.TheVariants.{Int, Str, Ref, Nil, Bool as Truth}

-- a state with other events, and what a step comes to with them
abbrev pub state_with : List Event → State → State
state_with es st = record st { common = rebased st.common es }

abbrev pub step_with : List Event → Step → Step
step_with es (Goes st more) = Goes (state_with es st) more
step_with es (Rests action operands st more) = Rests action operands (state_with es st) more
step_with es (Breaks st) = Breaks (state_with es st)
step_with es (Returns st) = Returns (state_with es st)
step_with es NoCase = NoCase

abbrev pub reached_with : List Event → Common × Option Reached → Common × Option Reached
reached_with es x = (rebased x.0 es, x.1)

-- two steps that differ in their events alone
abbrev pub Aside : List Event → Step → Step → Type 0
Aside es z y = z ≡ step_with es y

module _ (es : List Event) where
  -- ---- choices

  aside_if : (b : Bool) (y n y' n' : Step) → Aside es y' y → Aside es n' n → Aside es (if b then y' else n') (if b then y else n)
  aside_if true y n y' n' p q = p
  aside_if false y n y' n' p q = q

  aside_truth : (v : Value) (y n y' n' : Step) → Aside es y' y → Aside es n' n → Aside es (by_truth v y' n') (by_truth v y n)
  aside_truth (Truth true) y n y' n' p q = p
  aside_truth (Truth false) y n y' n' p q = q
  aside_truth (Int z) y n y' n' p q = refl
  aside_truth (Str t) y n y' n' p q = refl
  aside_truth (Ref o) y n y' n' p q = refl
  aside_truth Nil y n y' n' p q = refl

  aside_with : (o : Option Value) (st : State) (go go' : State → Value → Step) →
      ((below : State) (v : Value) → Aside es (go' (state_with es below) v) (go below v)) →
      Aside es (with_last (state_with es st) go' o) (with_last st go o)
  aside_with None st go go' each = refl
  aside_with (Some v) st go go' each = each (record st { held = below_of st.held }) v

  aside_last : (st : State) (go go' : State → Value → Step) →
      ((below : State) (v : Value) → Aside es (go' (state_with es below) v) (go below v)) →
      Aside es (last (state_with es st) go') (last st go)
  aside_last st go go' each = aside_with (top_of st.held) st go go' each

  aside_two : (st : State) (go go' : State → Value → Value → Step) →
      ((under : State) (u v : Value) → Aside es (go' (state_with es under) u v) (go under u v)) →
      Aside es (last_two (state_with es st) go') (last_two st go)
  aside_two st go go' each =
      aside_last st (λ below v. last below (λ under u. go under u v)) (λ below v. last below (λ under u. go' under u v))
      (λ below v. aside_last below (λ under u. go under u v) (λ under u. go' under u v) (λ under u. each under u v))

  aside_gives_if : (o : Option Value) (st : State) → Aside es (gives_if (state_with es st) o) (gives_if st o)
  aside_gives_if None st = refl
  aside_gives_if (Some v) st = refl

  -- ---- with the values that are held

  aside_negate : (v : Value) (below : State) → Aside es (negate (state_with es below) v) (negate below v)
  aside_negate (Int z) below = refl
  aside_negate _ below = refl

  aside_same : (o : Option Bool) (under : State) (wanted : Bool) →
      Aside es (same_or_not (state_with es under) wanted o) (same_or_not under wanted o)
  aside_same None under wanted = refl
  aside_same (Some b) under wanted = refl

  aside_returned : (has_result : Bool) (o : Option Value) (st : State) →
      Aside es (returned (state_with es st) has_result o) (returned st has_result o)
  aside_returned true None st = refl
  aside_returned true (Some v) st = refl
  aside_returned false o st = refl

  aside_leave_by : (k : Kind) (o : Operation) (st : State) → Aside es (leave_by k o (state_with es st)) (leave_by k o st)
  aside_leave_by kind.Named o st = aside_returned o.has_result (slice_get st.variables o.parameters) st
  aside_leave_by kind.Initial o st = refl
  aside_leave_by kind.Process o st = refl

  aside_leave : (o : Option Operation) (st : State) → Aside es (leave o (state_with es st)) (leave o st)
  aside_leave None st = refl
  aside_leave (Some o) st = aside_leave_by o.kind o st

  aside_choose : (arms : List Arm) (other : Option Block) (st : State) →
      Aside es (choose (state_with es st) arms other) (choose st arms other)
  aside_choose [] other st = refl
  aside_choose (arm ∷ arms) other st = refl

  aside_compare : (op : Comparison) (under : State) (u v : Value) →
      Aside es (compare op (state_with es under) u v) (compare op under u v)
  aside_compare Same under u v = aside_same (are_same u v) under true
  aside_compare NotSame under u v = aside_same (are_same u v) under false
  aside_compare Equal under u v = aside_same (are_same u v) under true
  aside_compare NotEqual under u v = aside_same (are_same u v) under false
  aside_compare Less under (Int a) (Int b) = refl
  aside_compare LessEqual under (Int a) (Int b) = refl
  aside_compare More under (Int a) (Int b) = refl
  aside_compare MoreEqual under (Int a) (Int b) = refl
  aside_compare _ under _ _ = refl

module _ (es : List Event) (s : Source) where
  aside_stored : (p : Place) (own : ℕ) (below : State) (v : Value) →
      stored s own (state_with es below) p v ≡ state_with es (stored s own below p v)
  aside_stored (place.Variable n) own below v = refl
  aside_stored (place.Field n) own below v = refl
  aside_stored (place.Captured n) own below v = refl
  aside_stored (place.Constant n) own below v = refl

  aside_value : (p : Place) (own : ℕ) (st : State) → value_at s own (state_with es st) p ≡ value_at s own st p
  aside_value (place.Variable n) own st = refl
  aside_value (place.Field n) own st = refl
  aside_value (place.Captured n) own st = refl
  aside_value (place.Constant n) own st = refl

  aside_calculate : (op : Multiplicative) (at : ℕ) (under : State) (u v : Value) →
      Aside es (calculate s op at (state_with es under) u v) (calculate s op at under u v)
  aside_calculate op at under (Int a) (Int b) =
      aside_if es (if divides op then is_zero b else false)
      (Rests (stop.Fail cause.ZeroDivisor (line s at)) [] under [])
      (gives under (Int (calculated op a b)))
      (Rests (stop.Fail cause.ZeroDivisor (line s at)) [] (state_with es under) [])
      (gives (state_with es under) (Int (calculated op a b)))
      refl refl
  aside_calculate op at under _ _ = refl

  aside_join : (op : Additive) (at : ℕ) (st under : State) (u v : Value) →
      Aside es (join s op at (state_with es st) (state_with es under) u v) (join s op at st under u v)
  aside_join Concat at st under u v = refl
  aside_join Plus at st under (Int a) (Int b) = refl
  aside_join Minus at st under (Int a) (Int b) = refl
  aside_join _ at st under _ _ = refl

  module _ (a : Whose) (st : State) where
    aside_evaluate : (y : Expression-F Expression Link Addend Factor) → Aside es (evaluate s a (state_with es st) y) (evaluate s a st y)
    aside_evaluate (Expression-F.Read p) =
        ap (gives_if (state_with es st)) (aside_value p a.own st) ∙ aside_gives_if es (value_at s a.own st p) st
    aside_evaluate _ = refl

    aside_follow : (y : Link-F Expression Link Addend Factor) → Aside es (follow s (state_with es st) y) (follow s st y)
    aside_follow (Link-F.Invoke name xs result at) = refl
    aside_follow (Link-F.Call b xs at) = refl
    aside_follow (Link-F.Element x of at) = refl

    aside_statement : (y : Statement-F Statement Arm Block) → Aside es (do_statement s a (state_with es st) y) (do_statement s a st y)
    aside_statement (Statement-F.Declare n None) = refl
    aside_statement (Statement-F.Declare n (Some x)) = refl
    aside_statement (Statement-F.Exit None) = refl
    aside_statement (Statement-F.Exit (Some x)) = refl
    aside_statement _ = refl

    -- ---- one step

    pub aside_step : (x : Item) → Aside es (step s a (state_with es st) x) (step s a st x)
    aside_step (i.Do x) = aside_statement (out-Statement x)
    aside_step (i.Evaluate x) = aside_evaluate (out-Expression x)
    aside_step (i.Follow l) = aside_follow (out-Link l)
    aside_step (i.Multiply f) = refl
    aside_step (i.Add d) = refl
    aside_step (i.AndThen x) =
        aside_last es st (and_then st x) (and_then (state_with es st) x)
        (λ below v. aside_truth es v (Goes below (i.Evaluate x ∷ [])) (Goes st []) (Goes (state_with es below) (i.Evaluate x ∷ []))
        (Goes (state_with es st) []) refl refl)
    aside_step (i.OrElse x) =
        aside_last es st (or_else st x) (or_else (state_with es st) x)
        (λ below v. aside_truth es v (Goes st []) (Goes below (i.Evaluate x ∷ [])) (Goes (state_with es st) [])
        (Goes (state_with es below) (i.Evaluate x ∷ [])) refl refl)
    aside_step (i.Choose arms other) = aside_choose es arms other st
    aside_step (i.Again b) = refl
    aside_step (i.Rest action takes) =
        aside_if es (nat_le takes (length st.held))
        (Rests action (drop (length st.held - takes) st.held) (holding st (take (length st.held - takes) st.held)) []) NoCase
        (Rests action (drop (length st.held - takes) st.held) (holding (state_with es st) (take (length st.held - takes) st.held))
        []) NoCase
        refl refl
    aside_step (i.Calculate op at) = aside_two es st (calculate s op at) (calculate s op at) (aside_calculate op at)
    aside_step (i.Join op at) = aside_two es st (join s op at st) (join s op at (state_with es st)) (aside_join op at st)
    aside_step i.Negate = aside_last es st negate negate (λ below v. aside_negate es v below)
    aside_step i.Invert =
        aside_last es st invert invert
        (λ below v. aside_truth es v (gives below (Truth false)) (gives below (Truth true))
        (gives (state_with es below) (Truth false)) (gives (state_with es below) (Truth true)) refl refl)
    aside_step (i.Compare op) = aside_two es st (compare op) (compare op) (aside_compare es op)
    aside_step (i.Branch b arms other) =
        aside_last es st (branch b arms other) (branch b arms other)
        (λ below v. aside_truth es v (Goes below (block_items b)) (Goes below (i.Choose arms other ∷ []))
        (Goes (state_with es below) (block_items b)) (Goes (state_with es below) (i.Choose arms other ∷ [])) refl refl)
    aside_step i.ExitIf =
        aside_last es st exit_if exit_if
        (λ below v. aside_truth es v (Breaks below) (Goes below []) (Breaks (state_with es below)) (Goes (state_with es below) [])
        refl refl)
    aside_step (i.Store p) =
        aside_last es st (store s a.own p) (store s a.own p) (λ below v. ap (λ (z : State). Goes z []) (aside_stored p a.own below v))
    aside_step i.Discard = refl
    aside_step (i.Require at) =
        aside_last es st (require s at) (require s at)
        (λ below v. aside_truth es v (Goes below []) (Rests (stop.Fail cause.FalseAssertion (line s at)) [] below [])
        (Goes (state_with es below) []) (Rests (stop.Fail cause.FalseAssertion (line s at)) [] (state_with es below) []) refl refl)
    aside_step i.Leave = aside_leave es (operation_at s a.operation) st

  -- ---- up to the next stop

  module _ (a : Whose) where
    settle_by_aside : (z : Step) (next : State → List Item → Common × Option Reached) (st : State) (rest : List Item) →
        ((new : State) (items : List Item) → next (state_with es new) items ≡ reached_with es (next new items)) →
        settle_by s a next (state_with es st) rest (step_with es z) ≡ reached_with es (settle_by s a next st rest z)
    settle_by_aside (Goes new more) next st rest so = so new (more ++ rest)
    settle_by_aside (Rests action operands new more) next st rest so = refl
    settle_by_aside (Breaks new) next st rest so = so new (behind_loop rest)
    settle_by_aside (Returns new) next st rest so = so new (i.Leave ∷ [])
    settle_by_aside NoCase next st rest so = refl

    pub settle_aside : (n : ℕ) (st : State) (items : List Item) →
        settle s a n (state_with es st) items ≡ reached_with es (settle s a n st items)
    settle_aside zero st items = refl
    settle_aside (suc n) st [] = refl
    settle_aside (suc n) st (x ∷ rest) =
        ap (settle_by s a (settle s a n) (state_with es st) rest) (aside_step a st x)
        ∙ settle_by_aside (step s a st x) (settle s a n) st rest (settle_aside n)
