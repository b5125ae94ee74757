-- Orderly worlds, from what was proved of stacks, of monitors, of depths and of queues.
use Rattle.std.proofs.Common.{◌≡◌, ◌∙◌, ◌∷◌, ◌≤◌, ◌==◌, ℕ, true, [], List, Option, Some, None}
use Rattle.std.proofs.Common.{⊎_elim, refl, sym, ap, subst, arith}
use Rattle.std.proofs.lemmas.Bool.Decides.{Decides-eqb}
use Rattle.std.specs.Prelude.{IsSome, if◌then◌else◌, slice_get}
use Rattle.ec_base.specs.Stack.{top_of}
use Rattle.ec_monitors.proofs.Depths.{each_deep}
use Rattle.ec_monitors.proofs.Keeping.{each_once, free_empty}
use Rattle.ec_monitors.specs.Laws.{FreeIsEmpty, HasDepths, KeptByEachAct}
use Rattle.ec_monitors.specs.Monitors.{depth_by, is_hold_of}
use Rattle.ec_monitors.specs.Standing.{StandsOnce, one_if, times_held, times_in_queues, times_waiting}
use Rattle.ec_monitors.specs.declared.record.Hold.{Hold}
use Rattle.ec_monitors.specs.declared.record.MonitorRec.{MonitorRec}
use Rattle.ec_world.proofs.Counting.{equal_case, one_itself}
use Rattle.ec_world.proofs.Members.{has_none, has_parts}
use Rattle.ec_world.specs.declared.class.ClassRec.{ClassRec}
use Rattle.ec_world.specs.declared.common.Common.{Common}
use Rattle.ec_world.specs.declared.process.Proc.{Proc}
use Rattle.ec_world.specs.declared.process.ProcStatus.{ProcStatus}
use Rattle.ec_world.specs.declared.process.ProcStatus.TheVariants.{Ready, Entry, Cond, Urgent, Ended, Failed}
use Rattle.ec_world.specs.declared.stop.Queue.TheVariants.{ForEntry, ForCondition, Urgently}
use Rattle.ec_world.specs.declared.value.ValueType.{ValueType}
use Rattle.ec_world.specs.declared.world.World.{World}
use Rattle.ec_world.specs.Group.{Has}
use Rattle.ec_world.specs.Meaning.{ActivationMeaning}
use Rattle.ec_world.specs.Outcomes.{monitor_of}
use Rattle.ec_world.specs.Run.{after_entries, first_world}
use Rattle.ec_world.specs.Waiting.{AreBlocked, is_blocked, times_blocked, times_blocked_if, times_queued_if}
use Rattle.ec_world.specs.World.{Action, GoOn}
use Rattle.ec_world.specs.Moves.{OperatorMove}
use Rattle.ec_reached.proofs.Conditions.{waiting_has}
use Rattle.ec_reached.proofs.Depths.{among_none, deep, in_queues_none}
use Rattle.ec_reached.proofs.Holders.{holds_if}
use Rattle.ec_reached.proofs.Monitors.{GoodIf, Holds, first_holds, kept_good, runs_good}
use Rattle.ec_reached.proofs.Queuing.{action_queued, first_queued, go_queued, move_queued}
use Rattle.ec_reached.proofs.Stacking.{runs_fit}
use Rattle.ec_reached.proofs.Standing.{HoldersGoOn, Ordered, each_stands, first_ordered, kept_ordered}
use Rattle.ec_reached.proofs.Steps.{by_entries}
use Rattle.ec_reached.specs.Depths.{QueuesFit, asked_of, depth_among, depth_in_queues}
use Rattle.ec_reached.specs.Laws.{EachBlockedRests, EachHoldCounts, EachMonitorFits, EachReachedIsOrderly, EachStackIsCalls, EntriesKeepOrder}
use Rattle.ec_reached.specs.Laws.{OrderIsKept}
use Rattle.ec_reached.specs.Meant.{StaysItself, StepsStay, StepsStop}
use Rattle.ec_reached.specs.Orderly.{IsWithin, Orderly}
use Rattle.ec_reached.specs.Orderly.IsWithin.{Holding, Signalling, Waiting}
use Rattle.ec_reached.specs.Stacks.{RestsAs}

-- ---- both ways

good_if : (P : MonitorRec → Type 0) (t : Option MonitorRec) → GoodIf P t → (m : MonitorRec) → t ≡ Some m → P m
good_if P None g m e = absurd cc
good_if P (Some n) g m e = let same : n ≡ m = cc in subst P same g

if_good : (P : MonitorRec → Type 0) (t : Option MonitorRec) → ((m : MonitorRec) → t ≡ Some m → P m) → GoodIf P t
if_good P None h = tt
if_good P (Some m) h = h m refl

module _ {A : Type 0} (M : ActivationMeaning A) where
  has_top : (c : Common) (s : ProcStatus) (top : Option A) → RestsAs M c s top → is_blocked s ≡ true → IsSome top
  has_top c (Entry o) top h e = subst IsSome (sym h.is_top) refl
  has_top c (Cond o) top h e = subst IsSome (sym h.is_top) refl
  has_top c (Urgent o) top h e = subst IsSome (sym h.is_top) refl
  has_top c Ready top h e = absurd cc
  has_top c Ended top h e = absurd cc
  has_top c (Failed why line) top h e = absurd cc

  module _ (classes : List ClassRec) (w : World A) where
    blocked : Orderly M classes w → AreBlocked w
    blocked h = record {
      entry = h.stand ForEntry;
      urgent = h.stand Urgently;
      condition = λ o q. let e = h.stand ForCondition o q in omega arith;
      top = λ q proc there is. has_top w.common proc.status (top_of proc.activations) (h.rest q proc there) is;
    }

    holds : (P : MonitorRec → Type 0) (kept : KeptByEachAct P) → Orderly M classes w → ((o : ℕ) (m : MonitorRec) → monitor_of w.common o ≡ Some m → P m) →
        Holds P kept M w
    holds P kept h each = record {
      blocked = blocked h;
      good = λ o. record { fits = h.monitors o; holds = if_good P (monitor_of w.common o) (each o) };
    }

    -- who holds a monitor stands in no queue of it
    holders : Orderly M classes w → HoldersGoOn M w
    holders h o q proc there held = by (monitor_of w.common o) refl held
      where
        shown : times_blocked_if ForCondition o (slice_get w.processes q) ≡ times_blocked ForCondition o proc.status
        shown = ap (λ (t : Option (Proc A)). times_blocked_if ForCondition o t) there

        held_one : (t : Option Hold) → is_hold_of q t ≡ true → times_held q t ≡ 1
        held_one None e = absurd cc
        held_one (Some x) e = ap one_if e

        by : (t : Option MonitorRec) → monitor_of w.common o ≡ t → holds_if t q ≡ true → times_blocked ForCondition o proc.status ≡ 0
        by None e i = absurd cc
        by (Some m) e i =
            let once = h.once o m e q in
            let one = held_one m.holder i in
            let told : times_queued_if ForCondition (monitor_of w.common o) q ≡ times_in_queues q m.conditions =
            ap (λ (t : Option MonitorRec). times_queued_if ForCondition t q) e in
            let s = shown in
            let k = h.stand ForCondition o q in
            omega arith

    module _ (stays : StaysItself M) where
      ordered : Orderly M classes w → Ordered M classes stays w
      ordered h = record {
        whole = record {
          stacks = λ q proc e. record { stack = h.stacks q proc e; rests = h.rest q proc e };
          good = holds HasDepths each_deep h h.deep;
          same = h.of_program;
          ends = λ q proc e a is i. h.ends q proc a e is i;
          depths = h.depths;
        };
        holders = holders h;
      }

      orderly : Ordered M classes stays w → Holds FreeIsEmpty free_empty M w → Holds StandsOnce each_once M w → QueuesFit M w →
          Orderly M classes w
      orderly h free once queues = record {
        of_program = h.whole.same;
        stacks = λ p proc e. (h.whole.stacks p proc e).stack;
        rest = λ p proc e. (h.whole.stacks p proc e).rests;
        ends = λ p proc a e is i. h.whole.ends p proc e a is i;
        monitors = λ o. (h.whole.good.good o).fits;
        free = λ o m e. good_if FreeIsEmpty (monitor_of w.common o) (free.good o).holds m e;
        once = λ o m e. good_if StandsOnce (monitor_of w.common o) (once.good o).holds m e;
        deep = λ o m e. good_if HasDepths (monitor_of w.common o) (h.whole.good.good o).holds m e;
        depths = h.whole.depths;
        stand = each_stands M stays classes w h;
        queues = queues;
      }

  -- ---- laws

  pub stack_is_calls : EachStackIsCalls M
  stack_is_calls advance stays steps n classes globals es p proc e = (runs_fit M stays advance steps n classes globals es p proc e).stack

  pub blocked_rests : EachBlockedRests M
  blocked_rests advance stays steps n classes globals es p proc e = (runs_fit M stays advance steps n classes globals es p proc e).rests

  pub monitor_fits : EachMonitorFits M
  monitor_fits advance stays steps n classes globals es =
      let w : World A = after_entries M advance (first_world M n classes globals) es in
      record {
        of_classes = λ o. ((runs_good FreeIsEmpty free_empty M advance steps n classes globals es).good o).fits;
        free = λ o m e.
            good_if FreeIsEmpty (monitor_of w.common o)
            ((runs_good FreeIsEmpty free_empty M advance steps n classes globals es).good o).holds m e;
        once = λ o m e.
            good_if StandsOnce (monitor_of w.common o)
            ((runs_good StandsOnce each_once M advance steps n classes globals es).good o).holds m e;
        deep = λ o m e.
            good_if HasDepths (monitor_of w.common o)
            ((runs_good HasDepths each_deep M advance steps n classes globals es).good o).holds m e;
      }

  module _ (advance : Common → A → Common × A) (classes : List ClassRec) (stays : StaysItself M) (steps : StepsStay M advance)
      (stop_at : StepsStop M advance classes) where
    order_acts : (w : World A) (p : ℕ) → Orderly M classes w → Orderly M classes (Action M w p)
    order_acts w p h =
        orderly classes (Action M w p) stays
        ((kept_ordered M stays classes advance steps stop_at).acts w p (ordered classes w stays h))
        ((kept_good FreeIsEmpty free_empty M advance steps).acts w p (holds classes w FreeIsEmpty free_empty h h.free))
        ((kept_good StandsOnce each_once M advance steps).acts w p (holds classes w StandsOnce each_once h h.once))
        (action_queued M stays classes w p (ordered classes w stays h) h.queues)

    order_goes : (w : World A) (p : ℕ) → Orderly M classes w → Orderly M classes (GoOn M advance w p)
    order_goes w p h =
        orderly classes (GoOn M advance w p) stays
        ((kept_ordered M stays classes advance steps stop_at).goes w p (ordered classes w stays h))
        ((kept_good FreeIsEmpty free_empty M advance steps).goes w p (holds classes w FreeIsEmpty free_empty h h.free))
        ((kept_good StandsOnce each_once M advance steps).goes w p (holds classes w StandsOnce each_once h h.once))
        (go_queued M stays classes advance steps w p (ordered classes w stays h) h.queues)

    order_moves : (w : World A) (o k : ℕ) → Orderly M classes w → Orderly M classes (OperatorMove w o k)
    order_moves w o k h =
        orderly classes (OperatorMove w o k) stays
        ((kept_ordered M stays classes advance steps stop_at).moves w o k (ordered classes w stays h))
        ((kept_good FreeIsEmpty free_empty M advance steps).moves w o k (holds classes w FreeIsEmpty free_empty h h.free))
        ((kept_good StandsOnce each_once M advance steps).moves w o k (holds classes w StandsOnce each_once h h.once))
        (move_queued M stays classes w o k h.queues)

    first_order : (n : ℕ) (globals : List ValueType) → Orderly M classes (first_world M n classes globals)
    first_order n globals =
        orderly classes (first_world M n classes globals) stays (first_ordered M stays classes advance steps stop_at n globals)
        (first_holds FreeIsEmpty free_empty M n classes globals) (first_holds StandsOnce each_once M n classes globals)
        (first_queued M stays classes n globals)

    keep_order : EntriesKeepOrder M advance classes
    keep_order = record { at_first = first_order; kept = record { acts = order_acts; goes = order_goes; moves = order_moves } }

  pub order_kept : OrderIsKept M
  order_kept advance classes stays steps stop_at = keep_order advance classes stays steps stop_at

  pub reached_orderly : EachReachedIsOrderly M
  reached_orderly advance classes stays steps stop_at n globals es =
      let k = keep_order advance classes stays steps stop_at in
      by_entries M advance (Orderly M classes) k.kept (first_world M n classes globals) es (k.at_first n globals)

-- ---- the depth of one hold

depth_here : (h : Hold) → depth_by h.process (Some h) ≡ h.depth
depth_here h = ap (λ b. if b then h.depth else 0) ((Decides-eqb h.process h.process).1 refl)

apart : (x h : Hold) → one_if (x.process == h.process) ≡ 0 → depth_by h.process (Some x) ≡ 0
apart x h e =
    equal_case (λ b. one_if b ≡ 0 → (if b then x.depth else 0) ≡ 0) x.process h.process (λ s z. absurd (omega arith)) (λ s z. refl) e

among_has : (hs : List Hold) (h : Hold) → Has hs h → times_waiting h.process hs ≤ 1 → depth_among h.process hs ≡ h.depth
among_has [] h k l = absurd (has_none h k)
among_has (x ∷ xs) h k l = ⊎_elim
    (λ (e : h ≡ x).
    let s : one_if (x.process == h.process) ≡ 1 = one_itself x.process h.process (ap (λ (z : Hold). z.process) (sym e)) in
    let z = among_none h.process xs (omega arith) in
    let d : depth_by h.process (Some x) ≡ h.depth = subst (λ (y : Hold). depth_by h.process (Some y) ≡ h.depth) e (depth_here h) in
    omega arith)
    (λ (i : Has xs h).
    let t = waiting_has xs h i in
    let z = apart x h (omega arith) in
    let r = among_has xs h i (omega arith) in
    omega arith)
    (has_parts x h xs k)

queues_times : (qs : List (List Hold)) (queue : List Hold) (h : Hold) → Has qs queue → Has queue h → 1 ≤ times_in_queues h.process qs
queues_times [] queue h k i = absurd (has_none queue k)
queues_times (x ∷ xs) queue h k i = ⊎_elim
    (λ (e : queue ≡ x). let l : 1 ≤ times_waiting h.process x = subst (λ y. 1 ≤ times_waiting h.process y) e (waiting_has queue h i) in omega arith)
    (λ (j : Has xs queue). let l = queues_times xs queue h j i in omega arith)
    (has_parts x queue xs k)

queues_has : (qs : List (List Hold)) (queue : List Hold) (h : Hold) → Has qs queue → Has queue h → times_in_queues h.process qs ≤ 1 →
    depth_in_queues h.process qs ≡ h.depth
queues_has [] queue h k i l = absurd (has_none queue k)
queues_has (x ∷ xs) queue h k i l = ⊎_elim
    (λ (e : queue ≡ x).
    let t : 1 ≤ times_waiting h.process x = subst (λ y. 1 ≤ times_waiting h.process y) e (waiting_has queue h i) in
    let z = in_queues_none h.process xs (omega arith) in
    let d = among_has x h (subst (λ y. Has y h) e i) (omega arith) in
    omega arith)
    (λ (j : Has xs queue).
    let t = queues_times xs queue h j i in
    let z = among_none h.process x (omega arith) in
    let r = queues_has xs queue h j i (omega arith) in
    omega arith)
    (has_parts x queue xs k)

held_once : (t : Option Hold) (h : Hold) → t ≡ Some h → (times_held h.process t ≡ 1) × (depth_by h.process t ≡ h.depth)
held_once None h e = absurd cc
held_once (Some x) h e =
    let same : x ≡ h = cc in
    subst (λ (y : Hold). (times_held h.process (Some y) ≡ 1) × (depth_by h.process (Some y) ≡ h.depth)) (sym same)
    (one_itself h.process h.process refl, depth_here h)

not_held : (q : ℕ) (t : Option Hold) → times_held q t ≡ 0 → depth_by q t ≡ 0
not_held q None e = refl
not_held q (Some x) e =
    equal_case (λ b. one_if b ≡ 0 → (if b then x.depth else 0) ≡ 0) x.process q (λ s z. absurd (omega arith)) (λ s z. refl) e

-- who stands once in a monitor is as deep in it as the one hold says
within_deep : (m : MonitorRec) (h : Hold) → StandsOnce m → IsWithin m h → deep m h.process ≡ h.depth
within_deep m h once (Holding e) =
    let o = once h.process in
    let k = held_once m.holder h e in
    let a = among_none h.process m.urgent (let s = k.0 in omega arith) in
    let c = in_queues_none h.process m.conditions (let s = k.0 in omega arith) in
    let d = k.1 in
    let s = k.0 in
    omega arith
within_deep m h once (Signalling e) =
    let o = once h.process in
    let t = waiting_has m.urgent h e in
    let a = among_has m.urgent h e (omega arith) in
    let c = in_queues_none h.process m.conditions (omega arith) in
    let d = not_held h.process m.holder (omega arith) in
    omega arith
within_deep m h once (Waiting queue at e) =
    let o = once h.process in
    let t = queues_times m.conditions queue h at e in
    let a = among_none h.process m.urgent (omega arith) in
    let c = queues_has m.conditions queue h at e (omega arith) in
    let d = not_held h.process m.holder (omega arith) in
    omega arith

module _ {A : Type 0} (M : ActivationMeaning A) where
  pub hold_counts : EachHoldCounts M
  hold_counts classes w order o m h at within =
      order.depths o h.process ∙ ap (λ t. asked_of t h.process) at ∙ within_deep m h (order.once o m at) within
