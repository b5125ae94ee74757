-- Each silent step makes what is to be done before the next stop lighter.
use Rattle.std.proofs.Common.{◌≡◌, ℕ, zero, suc, ◌+◌, ◌*◌, ◌≤◌, ◌<◌, Bool, true, false, if◌then◌else◌, List, [], ◌∷◌, ◌++◌, length}
use Rattle.std.proofs.Common.{map, Option, Some, None, refl, sym, ap, ◌∙◌, subst, arith}
use Rattle.std.specs.Prelude.{slice_get, nat_le, take, drop, ◌-◌}
use Rattle.ec_ast.specs.declared.Additive.{Additive}
use Rattle.ec_ast.specs.declared.Additive.TheVariants.{Plus, Minus, Concat}
use Rattle.ec_ast.specs.declared.Comparison.{Comparison}
use Rattle.ec_ast.specs.declared.Comparison.TheVariants.{Same, NotSame, Equal, NotEqual, Less, LessEqual, More, MoreEqual}
use Rattle.ec_ast.specs.declared.Multiplicative.{Multiplicative}
use Rattle.ec_base.specs.Stack.{top_of, below_of}
use Rattle.ec_core.specs.declared.Addend.{Addend, out-Addend}
use Rattle.ec_core.specs.declared.Arm.{Arm, out-Arm}
use Rattle.ec_core.specs.declared.Block.{Block}
use Rattle.ec_core.specs.declared.Compared.{Compared}
use Rattle.ec_core.specs.declared.Compared.TheVariants as compared
use Rattle.ec_core.specs.declared.Expression.{Expression, out-Expression}
use Rattle.ec_core.specs.declared.Expression.TheOpen.{Expression-F, Link-F}
use Rattle.ec_core.specs.declared.Expression.TheVariants as e
use Rattle.ec_core.specs.declared.Factor.{Factor, out-Factor}
use Rattle.ec_core.specs.declared.Kind.{Kind}
use Rattle.ec_core.specs.declared.Kind.TheVariants as kind
use Rattle.ec_core.specs.declared.Link.{Link, out-Link}
use Rattle.ec_core.specs.declared.Operation.{Operation}
use Rattle.ec_core.specs.declared.Place.{Place}
use Rattle.ec_core.specs.declared.Statement.{Statement, out-Statement}
use Rattle.ec_core.specs.declared.Statement.TheOpen.{Statement-F}
use Rattle.ec_meaning.specs.Programs.{Source, operation_at, class_number, name_number, line}
use Rattle.ec_meaning.specs.Steps.{Step, Goes, Rests, Breaks, Returns, NoCase, with_last, last, last_two, by_truth, gives_if}
use Rattle.ec_meaning.specs.Steps.{same_or_not, comparing}
use Rattle.ec_world.specs.Same.{are_same}
use Rattle.ec_meaning.specs.Steps.{evaluate, follow, do_statement, choose, block_if, calculate, join, compare, returned, leave_by}
use Rattle.ec_meaning.specs.Steps.{leave, step, value_at, negate, stop_of, divides, is_zero, calculated, gives, holding, and_then}
use Rattle.ec_meaning.specs.Steps.{or_else, invert, branch, block_items, exit_if, store, require}
use Rattle.ec_meaning.specs.Weights.{total, expression_weight, link_weight, statement_weight}
use Rattle.ec_meaning.specs.Weights.{weight_of_expression, weight_of_link, weight_of_addend, weight_of_factor, weight_of_arm}
use Rattle.ec_meaning.specs.Weights.{weight_of_arms, weight_of_other, weight_of_block}
use Rattle.ec_meaning.specs.Weights.{item_weight, weight}
use Rattle.ec_meaning.specs.declared.item.Item.{Item}
use Rattle.ec_meaning.specs.declared.item.Item.TheVariants as i
use Rattle.ec_meaning.specs.declared.state.State.{State}
use Rattle.ec_meaning.specs.declared.state.Whose.{Whose}
use Rattle.ec_meaning.proofs.Weighing.{expression_weighed, expression_is, link_weighed, link_is, addend_is, factor_is}
use Rattle.ec_meaning.proofs.Weighing.{statement_weighed, statement_is, arm_is, arms_are, weight_append, weight_each}
use Rattle.ec_meaning.proofs.Weighing.{weight_evaluated, weight_block}
use Rattle.ec_world.specs.declared.process.Cause.TheVariants as cause
use Rattle.ec_world.specs.declared.stop.Stop.TheVariants as stop
use Rattle.ec_world.specs.declared.value.Value.{Value}
use Rattle.ec_world.specs.declared.value.Value.TheVariants.{Int, Str, Ref, Nil, Bool as Truth}

-- what a step gives to be done is lighter than its item
abbrev pub Lighter : ℕ → Step → Type 0
Lighter n (Goes st more) = weight more < n
Lighter n (Rests action operands st more) = 0 < n
Lighter n (Breaks st) = 0 < n
Lighter n (Returns st) = 1 < n
Lighter n NoCase = 0 < n

-- ---- choices

lighter_if : (n : ℕ) (b : Bool) (yes_step no_step : Step) → Lighter n yes_step → Lighter n no_step →
    Lighter n (if b then yes_step else no_step)
lighter_if n true yes_step no_step y o = y
lighter_if n false yes_step no_step y o = o

lighter_with : (n : ℕ) (st : State) (go : State → Value → Step) (o : Option Value) → 0 < n →
    ((below : State) (v : Value) → Lighter n (go below v)) → Lighter n (with_last st go o)
lighter_with n st go None some each = some
lighter_with n st go (Some v) some each = each (record st { held = below_of st.held }) v

lighter_last : (n : ℕ) (st : State) (go : State → Value → Step) → 0 < n →
    ((below : State) (v : Value) → Lighter n (go below v)) → Lighter n (last st go)
lighter_last n st go some each = lighter_with n st go (top_of st.held) some each

lighter_two : (n : ℕ) (st : State) (go : State → Value → Value → Step) → 0 < n →
    ((under : State) (u v : Value) → Lighter n (go under u v)) → Lighter n (last_two st go)
lighter_two n st go some each =
    lighter_last n st (λ below v. last below (λ under u. go under u v)) some
    (λ below v. lighter_last n below (λ under u. go under u v) some (λ under u. each under u v))

lighter_truth : (n : ℕ) (v : Value) (yes_step no_step : Step) → 0 < n → Lighter n yes_step → Lighter n no_step →
    Lighter n (by_truth v yes_step no_step)
lighter_truth n (Truth true) yes_step no_step some y o = y
lighter_truth n (Truth false) yes_step no_step some y o = o
lighter_truth n (Int z) yes_step no_step some y o = some
lighter_truth n (Str t) yes_step no_step some y o = some
lighter_truth n (Ref r) yes_step no_step some y o = some
lighter_truth n Nil yes_step no_step some y o = some

-- ---- expressions

lighter_read : (n : ℕ) (st : State) (o : Option Value) → 0 < n → Lighter n (gives_if st o)
lighter_read n st None some = some
lighter_read n st (Some v) some = some

read_weight : (p : Place) → weight_of_expression (e.Read p) ≡ 2
unfolding out-Expression denote.Hole.Carrier.out
read_weight p = expression_is (e.Read p)

places_weight : (places : List Place) → weight (map (λ p. i.Evaluate (e.Read p)) places) ≤ 2 * length places
places_weight [] = omega arith
places_weight (p ∷ places) =
    let one = read_weight p in
    let t = places_weight places in
    omega arith

comparing_weight : (op : Comparison) (what : Compared) → item_weight (comparing op what) ≡ 1
comparing_weight Less compared.Texts = refl
comparing_weight LessEqual compared.Texts = refl
comparing_weight More compared.Texts = refl
comparing_weight MoreEqual compared.Texts = refl
comparing_weight _ _ = refl

module _ (s : Source) (a : Whose) (st : State) where
  lighter_evaluate : (y : Expression-F Expression Link Addend Factor) →
      Lighter (expression_weight (expression_weighed y)) (evaluate s a st y)
  lighter_evaluate (Expression-F.Number n) = omega arith
  lighter_evaluate (Expression-F.Literal text) = omega arith
  lighter_evaluate (Expression-F.Truth b) = omega arith
  lighter_evaluate Expression-F.Nil = omega arith
  lighter_evaluate Expression-F.Itself = omega arith
  lighter_evaluate (Expression-F.Read p) = lighter_read 2 st (value_at s a.own st p) (omega arith)
  lighter_evaluate Expression-F.NodeCount = omega arith
  lighter_evaluate (Expression-F.NodeAt x at) = omega arith
  lighter_evaluate (Expression-F.NewVector of x at) = omega arith
  lighter_evaluate (Expression-F.Construct class places) =
      let h = places_weight places in
      let w = weight_append (map (λ p. i.Evaluate (e.Read p)) places) (i.Rest (stop.New (class_number s class)) (length places) ∷ []) in
      omega arith
  lighter_evaluate (Expression-F.Create class xs) =
      let h = weight_evaluated xs in
      let w = weight_append (map i.Evaluate xs) (i.Rest (stop.New (class_number s class)) (length xs) ∷ []) in
      omega arith
  lighter_evaluate (Expression-F.Chain head links) =
      let h = weight_each i.Follow weight_of_link (λ l. omega arith) links in omega arith
  lighter_evaluate (Expression-F.Negative x) = omega arith
  lighter_evaluate (Expression-F.Not x) = omega arith
  lighter_evaluate (Expression-F.View x of at) = omega arith
  lighter_evaluate (Expression-F.IsFixed x at) = omega arith
  lighter_evaluate (Expression-F.Term first factors) =
      let h = weight_each i.Multiply weight_of_factor (λ f. omega arith) factors in omega arith
  lighter_evaluate (Expression-F.Sum first addends) =
      let h = weight_each i.Add weight_of_addend (λ d. omega arith) addends in omega arith
  lighter_evaluate (Expression-F.Compare left op what right) = let w = comparing_weight op what in omega arith
  lighter_evaluate (Expression-F.And first more) =
      let h = weight_each i.AndThen weight_of_expression (λ x. omega arith) more in omega arith
  lighter_evaluate (Expression-F.Or first more) =
      let h = weight_each i.OrElse weight_of_expression (λ x. omega arith) more in omega arith

  lighter_follow : (y : Link-F Expression Link Addend Factor) → Lighter (link_weight (link_weighed y)) (follow s st y)
  lighter_follow (Link-F.Invoke name xs result at) =
      let h = weight_evaluated xs in
      let w = weight_append (map i.Evaluate xs) (i.Rest (stop.Invoke (name_number s name) (line s at)) (1 + length xs) ∷ []) in
      omega arith
  lighter_follow (Link-F.Call b xs at) =
      let h = weight_evaluated xs in
      let w = weight_append (map i.Evaluate xs) (i.Rest (stop_of b (line s at)) (1 + length xs) ∷ []) in
      omega arith
  lighter_follow (Link-F.Element x of at) = omega arith

  -- ---- statements

  lighter_statement : (y : Statement-F Statement Arm Block) → Lighter (statement_weight (statement_weighed y)) (do_statement s a st y)
  lighter_statement (Statement-F.Declare n None) = omega arith
  lighter_statement (Statement-F.Declare n (Some x)) = omega arith
  lighter_statement (Statement-F.Assign p x) = omega arith
  lighter_statement (Statement-F.SetElement vector number x at) = omega arith
  lighter_statement (Statement-F.Drop x) = omega arith
  lighter_statement (Statement-F.Print x) = omega arith
  lighter_statement (Statement-F.If arms None) = let h = arms_are arms in omega arith
  lighter_statement (Statement-F.If arms (Some b)) = let h = arms_are arms in omega arith
  lighter_statement (Statement-F.Loop b) = omega arith
  lighter_statement (Statement-F.Exit None) = omega arith
  lighter_statement (Statement-F.Exit (Some x)) = omega arith
  lighter_statement Statement-F.Return = omega arith
  lighter_statement (Statement-F.Assert x at) = omega arith
  lighter_statement (Statement-F.Move x to at) = omega arith
  lighter_statement (Statement-F.Fix x to at) = omega arith
  lighter_statement (Statement-F.Refix x to at) = omega arith
  lighter_statement (Statement-F.Unfix x at) = omega arith
  lighter_statement (Statement-F.Wait n) = omega arith
  lighter_statement (Statement-F.Signal n) = omega arith

  lighter_choose : (arms : List Arm) (other : Option Block) →
      Lighter (1 + (weight_of_arms arms + weight_of_other other)) (choose st arms other)
  lighter_choose [] None = omega arith
  lighter_choose [] (Some b) = let h = weight_block b in omega arith
  lighter_choose (arm ∷ arms) other = let h = arm_is arm in omega arith

  -- ---- with the values that are held

  lighter_calculate : (op : Multiplicative) (at : ℕ) (under : State) (u v : Value) → Lighter 1 (calculate s op at under u v)
  lighter_calculate op at under (Int x) (Int y) =
      lighter_if 1 (if divides op then is_zero y else false) (Rests (stop.Fail cause.ZeroDivisor (line s at)) [] under [])
      (gives under (Int (calculated op x y))) (omega arith) (omega arith)
  lighter_calculate op at under (Int x) (Truth b) = omega arith
  lighter_calculate op at under (Int x) (Str t) = omega arith
  lighter_calculate op at under (Int x) (Ref o) = omega arith
  lighter_calculate op at under (Int x) Nil = omega arith
  lighter_calculate op at under (Truth b) v = omega arith
  lighter_calculate op at under (Str t) v = omega arith
  lighter_calculate op at under (Ref o) v = omega arith
  lighter_calculate op at under Nil v = omega arith

  lighter_join : (op : Additive) (at : ℕ) (under : State) (u v : Value) → Lighter 2 (join s op at st under u v)
  lighter_join Concat at under u v = omega arith
  lighter_join Plus at under (Int x) (Int y) = omega arith
  lighter_join Plus at under (Int x) (Truth b) = omega arith
  lighter_join Plus at under (Int x) (Str t) = omega arith
  lighter_join Plus at under (Int x) (Ref o) = omega arith
  lighter_join Plus at under (Int x) Nil = omega arith
  lighter_join Plus at under (Truth b) v = omega arith
  lighter_join Plus at under (Str t) v = omega arith
  lighter_join Plus at under (Ref o) v = omega arith
  lighter_join Plus at under Nil v = omega arith
  lighter_join Minus at under (Int x) (Int y) = omega arith
  lighter_join Minus at under (Int x) (Truth b) = omega arith
  lighter_join Minus at under (Int x) (Str t) = omega arith
  lighter_join Minus at under (Int x) (Ref o) = omega arith
  lighter_join Minus at under (Int x) Nil = omega arith
  lighter_join Minus at under (Truth b) v = omega arith
  lighter_join Minus at under (Str t) v = omega arith
  lighter_join Minus at under (Ref o) v = omega arith
  lighter_join Minus at under Nil v = omega arith

  lighter_same : (wanted : Bool) (under : State) (o : Option Bool) → Lighter 1 (same_or_not under wanted o)
  lighter_same wanted under None = omega arith
  lighter_same wanted under (Some b) = omega arith

  lighter_compare : (op : Comparison) (under : State) (u v : Value) → Lighter 1 (compare op under u v)
  lighter_compare Same under u v = lighter_same true under (are_same u v)
  lighter_compare NotSame under u v = lighter_same false under (are_same u v)
  lighter_compare Equal under u v = lighter_same true under (are_same u v)
  lighter_compare NotEqual under u v = lighter_same false under (are_same u v)
  lighter_compare Less under (Int x) (Int y) = omega arith
  lighter_compare LessEqual under (Int x) (Int y) = omega arith
  lighter_compare More under (Int x) (Int y) = omega arith
  lighter_compare MoreEqual under (Int x) (Int y) = omega arith
  lighter_compare _ under _ _ = omega arith

  lighter_negate : (below : State) (v : Value) → Lighter 1 (negate below v)
  lighter_negate below (Int z) = omega arith
  lighter_negate below (Truth b) = omega arith
  lighter_negate below (Str t) = omega arith
  lighter_negate below (Ref o) = omega arith
  lighter_negate below Nil = omega arith

  -- ---- the end of an operation

  lighter_returned : (has_result : Bool) (value : Option Value) → Lighter 1 (returned st has_result value)
  lighter_returned true None = omega arith
  lighter_returned true (Some v) = omega arith
  lighter_returned false value = omega arith

  lighter_leave_by : (k : Kind) (o : Operation) → Lighter 1 (leave_by k o st)
  lighter_leave_by kind.Named o = lighter_returned o.has_result (slice_get st.variables o.parameters)
  lighter_leave_by kind.Initial o = omega arith
  lighter_leave_by kind.Process o = omega arith

  lighter_leave : (o : Option Operation) → Lighter 1 (leave o st)
  lighter_leave None = omega arith
  lighter_leave (Some o) = lighter_leave_by o.kind o

  -- ---- one step

  pub lighter : (x : Item) → Lighter (item_weight x) (step s a st x)
  lighter (i.Do x) = subst (λ n. Lighter n (step s a st (i.Do x))) (sym (statement_is x)) (lighter_statement (out-Statement x))
  lighter (i.Evaluate x) = subst (λ n. Lighter n (step s a st (i.Evaluate x))) (sym (expression_is x)) (lighter_evaluate (out-Expression x))
  lighter (i.Follow l) = subst (λ n. Lighter n (step s a st (i.Follow l))) (sym (link_is l)) (lighter_follow (out-Link l))
  lighter (i.Multiply f) = let h = factor_is f in omega arith
  lighter (i.Add d) = let h = addend_is d in omega arith
  lighter (i.AndThen x) =
      lighter_last (1 + weight_of_expression x) st (and_then st x) (omega arith)
      (λ below v. lighter_truth (1 + weight_of_expression x) v (Goes below (i.Evaluate x ∷ [])) (Goes st []) (omega arith)
      (omega arith) (omega arith))
  lighter (i.OrElse x) =
      lighter_last (1 + weight_of_expression x) st (or_else st x) (omega arith)
      (λ below v. lighter_truth (1 + weight_of_expression x) v (Goes st []) (Goes below (i.Evaluate x ∷ [])) (omega arith)
      (omega arith) (omega arith))
  lighter (i.Choose arms other) = lighter_choose arms other
  lighter (i.Again b) = omega arith
  lighter (i.Rest action takes) =
      lighter_if 1 (nat_le takes (length st.held))
      (Rests action (drop (length st.held - takes) st.held) (holding st (take (length st.held - takes) st.held)) []) NoCase
      (omega arith) (omega arith)
  lighter (i.Calculate op at) = lighter_two 1 st (calculate s op at) (omega arith) (lighter_calculate op at)
  lighter (i.Join op at) = lighter_two 2 st (join s op at st) (omega arith) (lighter_join op at)
  lighter i.Negate = lighter_last 1 st negate (omega arith) lighter_negate
  lighter i.Invert =
      lighter_last 1 st invert (omega arith)
      (λ below v. lighter_truth 1 v (gives below (Truth false)) (gives below (Truth true)) (omega arith) (omega arith) (omega arith))
  lighter (i.Compare op) = lighter_two 1 st (compare op) (omega arith) (lighter_compare op)
  lighter (i.Branch b arms other) =
      let n : ℕ = 2 + (weight_of_block b + (weight_of_arms arms + weight_of_other other)) in
      let h = weight_block b in
      lighter_last n st (branch b arms other) (omega arith)
      (λ below v. lighter_truth n v (Goes below (block_items b)) (Goes below (i.Choose arms other ∷ [])) (omega arith) (omega arith)
      (omega arith))
  lighter i.ExitIf =
      lighter_last 1 st exit_if (omega arith)
      (λ below v. lighter_truth 1 v (Breaks below) (Goes below []) (omega arith) (omega arith) (omega arith))
  lighter (i.Store p) = lighter_last 1 st (store s a.own p) (omega arith) (λ below v. omega arith)
  lighter i.Discard = omega arith
  lighter (i.Require at) =
      lighter_last 1 st (require s at) (omega arith)
      (λ below v. lighter_truth 1 v (Goes below []) (Rests (stop.Fail cause.FalseAssertion (line s at)) [] below []) (omega arith)
      (omega arith) (omega arith))
  lighter i.Leave = lighter_leave (operation_at s a.operation)
