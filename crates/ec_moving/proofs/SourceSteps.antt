-- What each store into a field keeps of the world beside its processes, each step of a source keeps.
use Rattle.std.proofs.Common.{ℕ, ◌-◌, Bool, true, false, if◌then◌else◌, List, [], ◌∷◌, length, take, drop}
use Rattle.std.proofs.Common.{Option, Some, None}
use Rattle.std.specs.Prelude.{slice_get, nat_le}
use Rattle.ec_ast.specs.declared.Additive.{Additive}
use Rattle.ec_ast.specs.declared.Additive.TheVariants.{Plus, Minus, Concat}
use Rattle.ec_ast.specs.declared.Comparison.{Comparison}
use Rattle.ec_ast.specs.declared.Comparison.TheVariants.{Same, NotSame, Equal, NotEqual, Less, LessEqual, More, MoreEqual}
use Rattle.ec_ast.specs.declared.Multiplicative.{Multiplicative}
use Rattle.ec_base.specs.Stack.{top_of, below_of}
use Rattle.ec_core.specs.declared.Addend.{Addend}
use Rattle.ec_core.specs.declared.Arm.{Arm}
use Rattle.ec_core.specs.declared.Block.{Block}
use Rattle.ec_core.specs.declared.Expression.{Expression, out-Expression}
use Rattle.ec_core.specs.declared.Expression.TheOpen.{Expression-F, Link-F}
use Rattle.ec_core.specs.declared.Factor.{Factor}
use Rattle.ec_core.specs.declared.Kind.{Kind}
use Rattle.ec_core.specs.declared.Kind.TheVariants as kind
use Rattle.ec_core.specs.declared.Link.{Link, out-Link}
use Rattle.ec_core.specs.declared.Operation.{Operation}
use Rattle.ec_core.specs.declared.Place.{Place}
use Rattle.ec_core.specs.declared.Place.TheVariants as place
use Rattle.ec_core.specs.declared.Statement.{Statement, out-Statement}
use Rattle.ec_core.specs.declared.Statement.TheOpen.{Statement-F}
use Rattle.ec_meaning.specs.Programs.{Source, operation_at, line}
use Rattle.ec_meaning.specs.Steps.{Step, Goes, Rests, Breaks, Returns, NoCase, evaluate, follow, do_statement, choose, block_items}
use Rattle.ec_meaning.specs.Steps.{step, value_at, stored, gives, gives_if, with_field}
use Rattle.ec_meaning.specs.Steps.{holding, with_last, last, last_two, by_truth, and_then, or_else, branch, exit_if, require}
use Rattle.ec_meaning.specs.Steps.{invert, negate, store, calculate, calculated, divides, is_zero}
use Rattle.ec_meaning.specs.Steps.{join, same_or_not, compare, returned, leave_by, leave}
use Rattle.ec_meaning.specs.declared.item.Item.{Item}
use Rattle.ec_meaning.specs.declared.item.Item.TheVariants as i
use Rattle.ec_meaning.specs.declared.state.State.{State}
use Rattle.ec_meaning.specs.declared.state.Whose.{Whose}
use Rattle.ec_world.specs.Same.{are_same}
use Rattle.ec_world.specs.declared.common.Common.{Common}
use Rattle.ec_world.specs.declared.process.Cause.TheVariants as cause
use Rattle.ec_world.specs.declared.stop.Stop.TheVariants as stop
use Rattle.ec_world.specs.declared.value.Value.{Value}
use Rattle.ec_world.specs.declared.value.Value.TheVariants.{Int, Str, Ref, Nil, Bool as Truth}

module _ (Kept : Common → Type 0) where
  -- so it is where a step goes on or rests
  abbrev pub Keeps : Step → Type 0
  Keeps (Goes st more) = Kept st.common
  Keeps (Rests action operands st more) = Kept st.common
  Keeps (Breaks st) = Kept st.common
  Keeps (Returns st) = Kept st.common
  Keeps NoCase = Unit {0}

  -- each store into a field of this object keeps it
  abbrev pub StoresKeep : ℕ → Type 0
  StoresKeep own = (c : Common) (n : ℕ) (v : Value) → Kept c → Kept (with_field c own n v)

  -- ---- choices

  keeps_if : (b : Bool) (y n : Step) → Keeps y → Keeps n → Keeps (if b then y else n)
  keeps_if true y n p q = p
  keeps_if false y n p q = q

  keeps_truth : (v : Value) (y n : Step) → Keeps y → Keeps n → Keeps (by_truth v y n)
  keeps_truth (Truth true) y n p q = p
  keeps_truth (Truth false) y n p q = q
  keeps_truth (Int z) y n p q = tt
  keeps_truth (Str t) y n p q = tt
  keeps_truth (Ref o) y n p q = tt
  keeps_truth Nil y n p q = tt

  keeps_with : (o : Option Value) (st : State) (go : State → Value → Step) → Kept st.common →
      ((below : State) (v : Value) → Kept below.common → Keeps (go below v)) → Keeps (with_last st go o)
  keeps_with None st go h each = tt
  keeps_with (Some v) st go h each = each (holding st (below_of st.held)) v h

  keeps_last : (st : State) (go : State → Value → Step) → Kept st.common →
      ((below : State) (v : Value) → Kept below.common → Keeps (go below v)) → Keeps (last st go)
  keeps_last st go h each = keeps_with (top_of st.held) st go h each

  keeps_two : (st : State) (go : State → Value → Value → Step) → Kept st.common →
      ((under : State) (u v : Value) → Kept under.common → Keeps (go under u v)) → Keeps (last_two st go)
  keeps_two st go h each =
      keeps_last st (λ below v. last below (λ under u. go under u v)) h
      (λ below v k. keeps_last below (λ under u. go under u v) k (λ under u l. each under u v l))

  keeps_gives_if : (o : Option Value) (st : State) → Kept st.common → Keeps (gives_if st o)
  keeps_gives_if None st h = tt
  keeps_gives_if (Some v) st h = h

  -- ---- with the values that are held

  keeps_negate : (v : Value) (below : State) → Kept below.common → Keeps (negate below v)
  keeps_negate (Int z) below h = h
  keeps_negate _ below h = tt

  keeps_same : (o : Option Bool) (under : State) (wanted : Bool) → Kept under.common → Keeps (same_or_not under wanted o)
  keeps_same None under wanted h = tt
  keeps_same (Some b) under wanted h = h

  keeps_compare : (op : Comparison) (under : State) (u v : Value) → Kept under.common → Keeps (compare op under u v)
  keeps_compare Same under u v h = keeps_same (are_same u v) under true h
  keeps_compare NotSame under u v h = keeps_same (are_same u v) under false h
  keeps_compare Equal under u v h = keeps_same (are_same u v) under true h
  keeps_compare NotEqual under u v h = keeps_same (are_same u v) under false h
  keeps_compare Less under (Int a) (Int b) h = h
  keeps_compare LessEqual under (Int a) (Int b) h = h
  keeps_compare More under (Int a) (Int b) h = h
  keeps_compare MoreEqual under (Int a) (Int b) h = h
  keeps_compare _ under _ _ h = tt

  keeps_returned : (has_result : Bool) (o : Option Value) (st : State) → Kept st.common → Keeps (returned st has_result o)
  keeps_returned true None st h = tt
  keeps_returned true (Some v) st h = h
  keeps_returned false o st h = h

  keeps_leave_by : (k : Kind) (o : Operation) (st : State) → Kept st.common → Keeps (leave_by k o st)
  keeps_leave_by kind.Named o st h = keeps_returned o.has_result (slice_get st.variables o.parameters) st h
  keeps_leave_by kind.Initial o st h = h
  keeps_leave_by kind.Process o st h = h

  keeps_leave : (o : Option Operation) (st : State) → Kept st.common → Keeps (leave o st)
  keeps_leave None st h = h
  keeps_leave (Some o) st h = keeps_leave_by o.kind o st h

  keeps_choose : (arms : List Arm) (other : Option Block) (st : State) → Kept st.common → Keeps (choose st arms other)
  keeps_choose [] other st h = h
  keeps_choose (arm ∷ arms) other st h = h

  module _ (s : Source) where
    keeps_calculate : (op : Multiplicative) (at : ℕ) (under : State) (u v : Value) → Kept under.common →
        Keeps (calculate s op at under u v)
    keeps_calculate op at under (Int a) (Int b) h =
        keeps_if (if divides op then is_zero b else false)
        (Rests (stop.Fail cause.ZeroDivisor (line s at)) [] under []) (gives under (Int (calculated op a b))) h h
    keeps_calculate op at under _ _ h = tt

    keeps_join : (op : Additive) (at : ℕ) (st under : State) (u v : Value) → Kept st.common → Kept under.common →
        Keeps (join s op at st under u v)
    keeps_join Concat at st under u v h k = h
    keeps_join Plus at st under (Int a) (Int b) h k = k
    keeps_join Minus at st under (Int a) (Int b) h k = k
    keeps_join _ at st under _ _ h k = tt

    keeps_follow : (st : State) (y : Link-F Expression Link Addend Factor) → Kept st.common → Keeps (follow s st y)
    keeps_follow st (Link-F.Invoke name xs result at) h = h
    keeps_follow st (Link-F.Call b xs at) h = h
    keeps_follow st (Link-F.Element x of at) h = h

    keeps_evaluate : (a : Whose) (st : State) (y : Expression-F Expression Link Addend Factor) → Kept st.common →
        Keeps (evaluate s a st y)
    keeps_evaluate a st (Expression-F.Read p) h = keeps_gives_if (value_at s a.own st p) st h
    keeps_evaluate a st _ h = h

    -- ---- one step

    module _ (a : Whose) (stores : StoresKeep a.own) where
      keeps_stored : (p : Place) (st : State) (v : Value) → Kept st.common → Kept (stored s a.own st p v).common
      keeps_stored (place.Variable n) st v h = h
      keeps_stored (place.Field n) st v h = stores st.common _ v h
      keeps_stored (place.Captured n) st v h = h
      keeps_stored (place.Constant n) st v h = h

      keeps_statement : (st : State) (y : Statement-F Statement Arm Block) → Kept st.common → Keeps (do_statement s a st y)
      keeps_statement st (Statement-F.Declare n None) h = h
      keeps_statement st (Statement-F.Declare n (Some x)) h = h
      keeps_statement st (Statement-F.Exit None) h = h
      keeps_statement st (Statement-F.Exit (Some x)) h = h
      keeps_statement st _ h = h

      pub step_keeps : (st : State) (x : Item) → Kept st.common → Keeps (step s a st x)
      step_keeps st (i.Do x) h = keeps_statement st (out-Statement x) h
      step_keeps st (i.Evaluate x) h = keeps_evaluate a st (out-Expression x) h
      step_keeps st (i.Follow l) h = keeps_follow st (out-Link l) h
      step_keeps st (i.Multiply f) h = h
      step_keeps st (i.Add d) h = h
      step_keeps st (i.AndThen x) h =
          keeps_last st (and_then st x) h (λ below v k. keeps_truth v (Goes below (i.Evaluate x ∷ [])) (Goes st []) k h)
      step_keeps st (i.OrElse x) h =
          keeps_last st (or_else st x) h (λ below v k. keeps_truth v (Goes st []) (Goes below (i.Evaluate x ∷ [])) h k)
      step_keeps st (i.Choose arms other) h = keeps_choose arms other st h
      step_keeps st (i.Again b) h = h
      step_keeps st (i.Rest action takes) h =
          keeps_if (nat_le takes (length st.held))
          (Rests action (drop (length st.held - takes) st.held) (holding st (take (length st.held - takes) st.held)) []) NoCase h tt
      step_keeps st (i.Calculate op at) h = keeps_two st (calculate s op at) h (keeps_calculate op at)
      step_keeps st (i.Join op at) h = keeps_two st (join s op at st) h (λ under u v k. keeps_join op at st under u v h k)
      step_keeps st i.Negate h = keeps_last st negate h (λ below v k. keeps_negate v below k)
      step_keeps st i.Invert h =
          keeps_last st invert h (λ below v k. keeps_truth v (gives below (Truth false)) (gives below (Truth true)) k k)
      step_keeps st (i.Compare op) h = keeps_two st (compare op) h (keeps_compare op)
      step_keeps st (i.Branch b arms other) h =
          keeps_last st (branch b arms other) h
          (λ below v k. keeps_truth v (Goes below (block_items b)) (Goes below (i.Choose arms other ∷ [])) k k)
      step_keeps st i.ExitIf h = keeps_last st exit_if h (λ below v k. keeps_truth v (Breaks below) (Goes below []) k k)
      step_keeps st (i.Store p) h = keeps_last st (store s a.own p) h (λ below v k. keeps_stored p below v k)
      step_keeps st i.Discard h = h
      step_keeps st (i.Require at) h =
          keeps_last st (require s at) h
          (λ below v k. keeps_truth v (Goes below []) (Rests (stop.Fail cause.FalseAssertion (line s at)) [] below []) k k)
      step_keeps st i.Leave h = keeps_leave (operation_at s a.operation) st h
