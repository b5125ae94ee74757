-- What the code of an action does is the action.
use Rattle.std.proofs.Common.{◌≡◌, ℕ, ◌-◌, ◌<◌, List, [], ◌∷◌, ◌++◌, length, map, reverse, Option, Some, None, refl, sym, ap, ◌∙◌, arith}
use Rattle.std.specs.Prelude.{slice_get, slice_set, IsSome}
use Rattle.ec_base.specs.Stack.{top_of, below_of}
use Rattle.ec_base.proofs.Stacks.{stack_parts, top_of_none}
use Rattle.ec_world.specs.declared.value.Value.{Value}
use Rattle.ec_world.specs.declared.process.ProcStatus.{ProcStatus}
use Rattle.ec_world.specs.declared.process.ProcStatus.TheVariants.{Ready, Entry, Cond, Urgent, Ended, Failed}
use Rattle.ec_world.specs.declared.process.Proc.{Proc}
use Rattle.ec_world.specs.declared.stop.Stop.{Stop}
use Rattle.ec_world.specs.declared.stop.Who.{Who}
use Rattle.ec_world.specs.declared.doing.Doing.{Doing}
use Rattle.ec_world.specs.declared.doing.Outcome.{Outcome}
use Rattle.ec_world.specs.declared.common.Common.{Common}
use Rattle.ec_world.specs.declared.object.ObjectRec.{ObjectRec}
use Rattle.ec_world.specs.declared.world.World.{World}
use Rattle.ec_world.specs.Meaning.{ActivationMeaning}
use Rattle.ec_world.specs.Doings.{Asked}
use Rattle.ec_world.specs.Outcomes.{Acted, done, acted_if, outcome_of, all_granted}
use Rattle.ec_world.specs.World.{stack_if_ready, stack_at, ready_stack, all_readied, given_up, changed, changed_at, owns_of}
use Rattle.ec_world.specs.World.{begun_for, settled, acted, acted_by, acted_at, outcome_at, act_if_pending, act_on, Action, IsPending}
use Rattle.ec_world.proofs.Dropping.{all_owns}

module _ {A : Type 0} where
  -- a stack that isn't empty is that of a process that is Ready
  stack_is : (s : ProcStatus) (xs : List A) (top : A) → top_of (stack_if_ready s xs) ≡ Some top → stack_if_ready s xs ≡ xs
  stack_is Ready xs top e = refl
  stack_is (Entry o) xs top e = cc
  stack_is (Cond o) xs top e = cc
  stack_is (Urgent o) xs top e = cc
  stack_is Ended xs top e = cc
  stack_is (Failed cause line) xs top e = cc

  stack_of : (w : World A) (p : ℕ) (proc : Proc A) (top : A) → slice_get w.processes p ≡ Some proc →
      top_of (stack_at w p) ≡ Some top → stack_at w p ≡ proc.activations
  stack_of w p proc top at e =
      let s : stack_at w p ≡ stack_if_ready proc.status proc.activations = ap ready_stack at in
      s ∙ stack_is proc.status proc.activations top (ap top_of (sym s) ∙ e)

  length-below : (xs : List A) (top : A) → top_of xs ≡ Some top → length (below_of xs) ≡ length xs - 1
  length-below [] top e = cc
  length-below (x ∷ []) top e = refl
  length-below (x ∷ y ∷ ys) top e = let h = length-below (y ∷ ys) top e in omega arith

-- a list that isn't empty has a top
pub top_there : {A : Type 0} → (xs : List A) → 0 < length xs → IsSome (top_of xs)
top_there {A = A} xs h = part (top_of xs) refl
  where
    part : (t : Option A) → top_of xs ≡ t → IsSome (top_of xs)
    part (Some x) e = rw e refl
    part None e = let n : xs ≡ [] = top_of_none xs e in let l = ap length n in absurd (omega arith)

-- what is looked at and then done is what the table has
pub came : (c d : Common) (who : Who) (read asked : Asked) (doing : Doing) (o : Outcome) → read ≡ asked → read ≡ Some doing →
    done c who doing ≡ (d, o) → acted_if c who asked ≡ Some (d, o)
came c d who read asked doing o e i f = let s : asked ≡ Some doing = sym e ∙ i in ap (acted_if c who) s ∙ ap Some f

module _ {A : Type 0} (M : ActivationMeaning A) (w : World A) (p : ℕ) where
  -- ---- what the table has

  module _ (can : IsPending M w p) where
    -- for what is read of the top activation
    pub outcome_read : (stack : List A) (last : A) (depth operation own : ℕ) (stop : Stop) (operands : List Value) →
        stack ≡ stack_at w p → top_of stack ≡ Some last → depth ≡ length stack - 1 → operation ≡ M.operation last →
        own ≡ M.own last → stop ≡ M.stop last → operands ≡ M.operands last →
        outcome_of w.common (record { process = p; depth = depth; operation = operation; own = own }) stop
        operands ≡ outcome_at M w p (below_of (stack_at w p)) can.top
    outcome_read stack last depth operation own stop operands is top d o s t v =
        let same : last ≡ can.top = (let e = ap top_of is in let r = can.is_top in cc) in
        let below : depth ≡ length (below_of (stack_at w p)) =
        d ∙ (let e = ap length is in let l = length-below (stack_at w p) can.top can.is_top in omega arith) in
        rw (below, o, s, t, v, same) refl

    -- the action is what the table has
    action_is : (a : Acted) → outcome_at M w p (below_of (stack_at w p)) can.top ≡ a →
        Action M w p ≡ acted M w p (below_of (stack_at w p)) can.top a
    action_is a e =
        ap (act_on M w p (below_of (stack_at w p))) can.is_top
        ∙ ap (act_if_pending M w p (below_of (stack_at w p)) can.top) can.pending
        ∙ ap (acted M w p (below_of (stack_at w p)) can.top) e

    -- what is done to the rest of the world first, and then to processes, is the action
    pub action_after : (c : Common) (o : Outcome) (new : World A) →
        outcome_at M w p (below_of (stack_at w p)) can.top ≡ Some (c, o) →
        new ≡ acted_at M (record { common = c; processes = w.processes }) p (Some (c, o)) → new ≡ Action M w p
    action_after c o new e h =
        h
        ∙ ap (λ (t : Option A). acted_by M (record { common = c; processes = w.processes }) p (below_of (stack_at w p)) t
        (Some (c, o))) can.is_top
        ∙ sym (action_is (Some (c, o)) e)

  -- ---- what becomes of processes

  -- a process with a stack has a top
  pub some_top : IsSome (top_of (stack_at w p)) → (top : A) × (top_of (stack_at w p) ≡ Some top)
  some_top h = part (top_of (stack_at w p)) refl h
    where
      part : (t : Option A) → top_of (stack_at w p) ≡ t → IsSome t → (top : A) × (top_of (stack_at w p) ≡ Some top)
      part (Some top) e k = (top, e)
      part None e k = cc

  -- the process that acted, and those that were granted a monitor, and the one that starts, are as the outcome says
  module _ (top : A) (o : Outcome) (proc proc' : Proc A) (objects : List ObjectRec) (freed : List ℕ)
      (e : top_of (stack_at w p) ≡ Some top) (at : slice_get w.processes p ≡ Some proc) where
    stack : stack_at w p ≡ proc.activations
    stack = stack_of w p proc top at e

    owns : reverse (map M.own proc.activations) ≡ owns_of M (below_of (stack_at w p)) top
    owns =
        ap (λ (xs : List A). reverse (map M.own xs)) (sym stack ∙ stack_parts (stack_at w p) top e)
        ∙ all_owns M.own (below_of (stack_at w p)) top

    process_is : Some proc' ≡ changed_at M (below_of proc.activations) (top_of proc.activations) o.effect →
        proc' ≡ changed M (below_of (stack_at w p)) top o.effect
    process_is c =
        let f : Some proc' ≡ changed_at M (below_of (stack_at w p)) (Some top) o.effect =
        c ∙ ap (λ (xs : List A). changed_at M (below_of xs) (top_of xs) o.effect) (sym stack)
        ∙ ap (λ (x : Option A). changed_at M (below_of (stack_at w p)) x o.effect) e in
        cc

    pub settled_read : (readied begun : List (Proc A)) →
        given_up p (reverse (map M.own proc.activations)) o.effect w.common.objects ≡ (objects, freed) →
        Some proc' ≡ changed_at M (below_of proc.activations) (top_of proc.activations) o.effect →
        readied ≡ all_readied (slice_set w.processes p proc') (all_granted o.granted freed) →
        begun ≡ readied ++ begun_for M o.started →
        record { common = record w.common { objects = objects }; processes = begun } ≡ acted_at M w p (Some (w.common, o))
    settled_read readied begun g c r b =
        let given : (objects, freed) ≡ given_up p (owns_of M (below_of (stack_at w p)) top) o.effect w.common.objects =
        sym g ∙ ap (λ (os : List ℕ). given_up p os o.effect w.common.objects) owns in
        let is : begun ≡ all_readied (slice_set w.processes p (changed M (below_of (stack_at w p)) top o.effect))
        (all_granted o.granted freed) ++ begun_for M o.started =
        b
        ∙ ap (λ (xs : List (Proc A)). xs ++ begun_for M o.started) r
        ∙ ap (λ (q : Proc A). all_readied (slice_set w.processes p q) (all_granted o.granted freed) ++ begun_for M o.started)
        (process_is c) in
        rw is
        (ap (settled M w p (below_of (stack_at w p)) top w.common o) given
        ∙ sym (ap (λ (t : Option A). acted_by M w p (below_of (stack_at w p)) t (Some (w.common, o))) e))
