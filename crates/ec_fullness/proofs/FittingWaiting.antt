-- Those that wait for a call do so at a stop behind which code goes on, in each world of a run.
use Rattle.std.proofs.Common.{◌≡◌, ℕ, Bool, true, false, List, [], ◌∷◌, ◌++◌, Option, Some, None, refl, sym, ap, ◌∙◌, subst}
use Rattle.std.specs.Prelude.{slice_get, slice_set}
use Rattle.std.specs.List.{AllByRecursion as Each}
use Rattle.ec_base.proofs.Stacks.{below_of-push}
use Rattle.ec_base.specs.Stack.{below_of, top_of}
use Rattle.ec_cluster.specs.Cluster.{CodeWorld}
use Rattle.ec_code.specs.Activations.{begun, code_meaning, code_silent, finished}
use Rattle.ec_code.specs.Fine.{GoesOn as IfGoesOn}
use Rattle.ec_code.specs.declared.activation.CodeActivation.{CodeActivation}
use Rattle.ec_code.specs.declared.code.Parts.{Parts}
use Rattle.ec_fullness.specs.Waiters.{AllStay, BelowStay, WaitersStay}
use Rattle.ec_code.specs.Live.{stays}
use Rattle.ec_code.proofs.Carried.{each_append, each_get, each_set}
use Rattle.ec_code.proofs.Table.{Continues, EffectGoes, continues}
use Rattle.ec_code.specs.Example.{dividing, main_operation, nothing_declared}
use Rattle.ec_cluster.specs.Acting.{Asks, IsTop}
use Rattle.ec_cluster.specs.SystemSteps.{world_done, world_settled}
use Rattle.ec_world.specs.Moves.{OperatorMove}
use Rattle.ec_world.specs.Outcomes.{Acted, acted_if, all_granted, done, outcome_of}
use Rattle.ec_world.specs.Run.{after_entry}
use Rattle.ec_world.specs.World.{Action, GoOn, act_if_pending, act_on, acted, advanced, all_readied, begun_for, changed, finish_top}
use Rattle.ec_world.specs.World.{given_up, go_on, go_on_unless, outcome_at, owns_of, readied, ready_stack, settled, stack_at}
use Rattle.ec_world.specs.World.{stack_if_ready, who_of}
use Rattle.ec_world.specs.declared.common.Common.{Common}
use Rattle.ec_world.specs.declared.doing.Doing.{Doing}
use Rattle.ec_world.specs.declared.doing.Outcome.{Outcome}
use Rattle.ec_world.specs.declared.doing.Section.{Section}
use Rattle.ec_world.specs.declared.object.ObjectRec.{ObjectRec}
use Rattle.ec_world.specs.declared.process.Proc.{Proc}
use Rattle.ec_world.specs.declared.process.ProcStatus.{ProcStatus}
use Rattle.ec_world.specs.declared.process.ProcStatus.TheVariants.{Ready, Entry, Cond, Urgent, Ended, Failed}
use Rattle.ec_world.specs.declared.run.RunEntry.{RunEntry}
use Rattle.ec_world.specs.declared.run.RunEntry.TheVariants.{MoveOf, TurnOf}
use Rattle.ec_world.specs.declared.stop.Effect.{Effect}
use Rattle.ec_world.specs.declared.stop.Effect.TheVariants.{GoesOn, Calls, Leaves, Blocks, Ends, Fails}
use Rattle.ec_world.specs.declared.stop.Stop.{Stop}
use Rattle.ec_world.specs.declared.stop.Stop.TheVariants as stop
use Rattle.ec_world.specs.declared.stop.Who.{Who}
use Rattle.ec_world.specs.declared.value.Value.{Value}

-- an activation rests at a stop behind which code goes on
abbrev pub Stays : CodeActivation → Type 0
Stays a = stays a.stop ≡ true

-- ---- the stops of actions that don't leave

goes : (s : Stop) → IfGoesOn nothing_declared dividing 0 main_operation s (stays s ≡ true)
goes (stop.Return gives_self) = tt
goes stop.End = tt
goes (stop.Fail why line) = tt
goes s = refl

-- Code goes on behind a stop whose action has an effect on its own activation.
pub stop_goes : (c : Common) (who : Who) (s : Stop) (vs : List Value) → Continues (stays s ≡ true) (outcome_of c who s vs)
stop_goes c who s vs = continues c who (stays s ≡ true) nothing_declared dividing 0 main_operation s vs (goes s)

-- ---- stacks

pushed : (xs : List CodeActivation) (x : CodeActivation) → AllStay xs → AllStay (below_of (xs ++ x ∷ []))
pushed xs x h = subst (λ ys. AllStay ys) (sym (below_of-push xs x)) h

below_less : (xs : List CodeActivation) → AllStay xs → AllStay (below_of xs)
below_less [] h = tt
below_less (x ∷ []) h = tt
below_less (x ∷ y ∷ ys) h = (h.0, below_less (y ∷ ys) h.1)

left_stay : (below : List CodeActivation) (t : Option CodeActivation) (given : Option Value) → AllStay below →
    AllStay (below_of (finish_top code_meaning (below_of below) t given))
left_stay below None given h = tt
left_stay below (Some t) given h = pushed (below_of below) (finished t given) (below_less below h)

pub changed_stay : (below : List CodeActivation) (top : CodeActivation) (e : Effect) → AllStay below → EffectGoes (Stays top) e →
    BelowStay (changed code_meaning below top e)
changed_stay below top (GoesOn given) h g = pushed below (finished top given) h
changed_stay below top (Calls op own args) h g =
    pushed (below ++ finished top None ∷ []) (begun op own args) (each_append Stays below (finished top None ∷ []) h (g, tt))
changed_stay below top (Leaves given) h g = left_stay below (top_of below) given h
changed_stay below top (Blocks queue own) h g = pushed below (finished top None) h
changed_stay below top Ends h g = tt
changed_stay below top (Fails why line) h g = tt

-- ---- processes

readied_stay : (ps : List (Proc CodeActivation)) (q : ℕ) (proc : Option (Proc CodeActivation)) → slice_get ps q ≡ proc →
    Each BelowStay ps → Each BelowStay (readied ps q proc)
readied_stay ps q None e h = h
readied_stay ps q (Some proc) e h = each_set BelowStay ps q (record proc { status = Ready }) h (each_get BelowStay ps q proc h e)

all_readied_stay : (ps : List (Proc CodeActivation)) (qs : List ℕ) → Each BelowStay ps → Each BelowStay (all_readied ps qs)
all_readied_stay ps [] h = h
all_readied_stay ps (q ∷ qs) h =
    all_readied_stay (readied ps q (slice_get ps q)) qs (readied_stay ps q (slice_get ps q) refl h)

begun_stay : (section : Option Section) → Each BelowStay (begun_for code_meaning section)
begun_stay None = tt
begun_stay (Some section) = (tt, tt)

settled_stay : (w : CodeWorld) (p : ℕ) (below : List CodeActivation) (top : CodeActivation) (c : Common) (o : Outcome)
    (g : List ObjectRec × List ℕ) → WaitersStay w → AllStay below → EffectGoes (Stays top) o.effect →
    WaitersStay (settled code_meaning w p below top c o g)
settled_stay w p below top c o (objects, freed) h b e =
    let new : Proc CodeActivation = changed code_meaning below top o.effect in
    let ps : List (Proc CodeActivation) = slice_set w.processes p new in
    each_append BelowStay (all_readied ps (all_granted o.granted freed)) (begun_for code_meaning o.started)
    (all_readied_stay ps (all_granted o.granted freed)
    (each_set BelowStay w.processes p new h (changed_stay below top o.effect b e)))
    (begun_stay o.started)

status_stay : (s : ProcStatus) (xs : List CodeActivation) → AllStay (below_of xs) → AllStay (below_of (stack_if_ready s xs))
status_stay Ready xs h = h
status_stay (Entry o) xs h = tt
status_stay (Cond o) xs h = tt
status_stay (Urgent o) xs h = tt
status_stay Ended xs h = tt
status_stay (Failed why line) xs h = tt

stack_stay : (w : CodeWorld) (p : ℕ) → WaitersStay w → AllStay (below_of (stack_at w p))
stack_stay w p h = by (slice_get w.processes p) refl
  where
    by : (q : Option (Proc CodeActivation)) → slice_get w.processes p ≡ q → AllStay (below_of (ready_stack q))
    by None e = tt
    by (Some proc) e = status_stay proc.status proc.activations (each_get BelowStay w.processes p proc h e)

-- ---- actions

acted_stay : (w : CodeWorld) (p : ℕ) (below : List CodeActivation) (top : CodeActivation) (a : Acted) → WaitersStay w → AllStay below →
    Continues (Stays top) a → WaitersStay (acted code_meaning w p below top a)
acted_stay w p below top None h b g = h
acted_stay w p below top (Some (c, o)) h b g =
    settled_stay w p below top c o (given_up p (owns_of code_meaning below top) o.effect c.objects) h b g

pending_stay : (w : CodeWorld) (p : ℕ) (below : List CodeActivation) (top : CodeActivation) (pending : Bool) → WaitersStay w →
    AllStay below → WaitersStay (act_if_pending code_meaning w p below top pending)
pending_stay w p below top false h b = h
pending_stay w p below top true h b =
    acted_stay w p below top (outcome_at code_meaning w p below top) h b
    (stop_goes w.common (who_of code_meaning p below top) top.stop top.operands)

act_on_stay : (w : CodeWorld) (p : ℕ) (below : List CodeActivation) (top : Option CodeActivation) → WaitersStay w → AllStay below →
    WaitersStay (act_on code_meaning w p below top)
act_on_stay w p below None h b = h
act_on_stay w p below (Some top) h b = pending_stay w p below top top.pending h b

pub action_waiters : (w : CodeWorld) (p : ℕ) → WaitersStay w → WaitersStay (Action code_meaning w p)
action_waiters w p h = act_on_stay w p (below_of (stack_at w p)) (top_of (stack_at w p)) h (stack_stay w p h)

-- the activations below the one that acts
pub asked_below : (w : CodeWorld) (p : ℕ) (below : List CodeActivation) (top : CodeActivation) → IsTop w p below top → WaitersStay w →
    AllStay below
asked_below w p below top is h =
    subst (λ xs. AllStay xs) (ap below_of is.stack ∙ below_of-push below top)
    (each_get BelowStay w.processes p is.proc h is.is)

-- both steps of an action keep it
pub settles_waiters : (w : CodeWorld) (below : List CodeActivation) (top : CodeActivation) (who : Who) (doing : Doing) →
    Asks w below top who doing → WaitersStay w →
    WaitersStay (world_settled (world_done w who doing) who.process below top (done w.common who doing).1)
settles_waiters w below top who doing asks h =
    let new : Common = (done w.common who doing).0 in
    let o : Outcome = (done w.common who doing).1 in
    settled_stay (world_done w who doing) who.process below top new o
    (given_up who.process (owns_of code_meaning below top) o.effect new.objects) h
    (asked_below w who.process below top asks.is_top h)
    (subst (λ a. Continues (Stays top) a) (ap (acted_if w.common who) asks.is) (stop_goes w.common who top.stop top.operands))

-- ---- entries

advanced_stay : (p : Parts) (w : CodeWorld) (n : ℕ) (below : List CodeActivation) (m : Common × CodeActivation) → WaitersStay w →
    AllStay below → WaitersStay (advanced code_meaning (code_silent p) w n below m)
advanced_stay p w n below (c, top) h b =
    each_set BelowStay w.processes n (record { activations = below ++ top ∷ []; status = Ready }) h (pushed below top b)

unless_stay : (p : Parts) (w : CodeWorld) (n : ℕ) (below : List CodeActivation) (top : CodeActivation) (pending : Bool) → WaitersStay w →
    AllStay below → WaitersStay (go_on_unless code_meaning (code_silent p) w n below top pending)
unless_stay p w n below top true h b = h
unless_stay p w n below top false h b = advanced_stay p w n below (code_silent p w.common top) h b

go_stay : (p : Parts) (w : CodeWorld) (n : ℕ) (below : List CodeActivation) (top : Option CodeActivation) → WaitersStay w → AllStay below →
    WaitersStay (go_on code_meaning (code_silent p) w n below top)
go_stay p w n below None h b = h
go_stay p w n below (Some top) h b = unless_stay p w n below top top.pending h b

pub go_on_waiters : (p : Parts) (w : CodeWorld) (n : ℕ) → WaitersStay w → WaitersStay (GoOn code_meaning (code_silent p) w n)
go_on_waiters p w n h = go_stay p w n (below_of (stack_at w n)) (top_of (stack_at w n)) h (stack_stay w n h)

pub move_waiters : (w : CodeWorld) (x k : ℕ) → WaitersStay w → WaitersStay (OperatorMove w x k)
move_waiters w x k h = h

pub entry_waiters : (p : Parts) (w : CodeWorld) (e : RunEntry) → WaitersStay w → WaitersStay (after_entry code_meaning (code_silent p) w e)
entry_waiters p w (TurnOf n) h = go_on_waiters p (Action code_meaning w n) n (action_waiters w n h)
entry_waiters p w (MoveOf x k) h = move_waiters w x k h
