-- What an act on a monitor does to each of its queues.
use Rattle.std.proofs.Common.{◌≡◌, ℕ, ◌+◌, ◌<◌, ◌≤◌, ◌==◌, Bool, true, false, List, [], ◌∷◌, ◌++◌, length, Option, Some, None, refl, ap}
use Rattle.std.proofs.Common.{arith}
use Rattle.std.specs.Prelude.{slice_set, nat_lt}
use Rattle.std.proofs.lemmas.Bool.Decides.{nat_tests, Decides-eqb}
use Rattle.ec_base.specs.Stack.{top_of}
use Rattle.ec_monitors.proofs.Standing.{entering-push, waiting-push, waiting-top, queues-set}
use Rattle.ec_monitors.specs.Monitors.{Granting, is_hold_of, is_held_by, entered, enter_by, enter_held, left, leave_by, leave_held, dropped}
use Rattle.ec_monitors.specs.Monitors.{waited, wait_by, signalled, signal_by, resumed, released, top_of_urgent, first_of_entry, waiting_for}
use Rattle.ec_monitors.specs.Standing.{times_entering, times_waiting}
use Rattle.ec_monitors.specs.declared.record.Granted.{Granted}
use Rattle.ec_monitors.specs.declared.record.Hold.{Hold}
use Rattle.ec_monitors.specs.declared.record.MonitorRec.{MonitorRec}
use Rattle.ec_world.specs.Outcomes.{by_holder, at_condition, entry_effect, signal_effect}
use Rattle.ec_world.specs.declared.stop.Effect.{Effect}
use Rattle.ec_world.specs.declared.stop.Effect.TheVariants.{Blocks}
use Rattle.ec_world.specs.declared.stop.Queue.{Queue}
use Rattle.ec_world.specs.declared.stop.Queue.TheVariants.{ForEntry, ForCondition, Urgently}
use Rattle.ec_world.specs.Waiting.{times_queued}
use Rattle.ec_world.proofs.Counting.{if_case, in_queue, went, came, went_one, Fits, fits_same}

-- After an act of process p somebody stands no more in a queue, who is granted the monitor, and p may have come to one; whoever
-- is granted it stood in it before.
pub record Balanced (m : MonitorRec) (p : ℕ) (effect : Option Granted → Effect) (g : Granting) : Type 0 where
  pub from : Queue
  pub fits :
      (queue : Queue) (q : ℕ) →
      Fits queue (times_queued queue g.0 q + went from g.1 queue q) (times_queued queue m q + came p (effect g.1) queue q)
  pub stood : (r : Granted) → g.1 ≡ Some r → 1 ≤ times_queued from m r.process

exactly : (m : MonitorRec) (p : ℕ) (effect : Option Granted → Effect) (g : Granting) (from : Queue) →
    ((queue : Queue) (q : ℕ) →
    times_queued queue g.0 q + went from g.1 queue q ≡ times_queued queue m q + came p (effect g.1) queue q) →
    ((r : Granted) → g.1 ≡ Some r → 1 ≤ times_queued from m r.process) → Balanced m p effect g
exactly m p effect g from same stood = record {
  from = from;
  fits = λ queue q.
      fits_same queue (times_queued queue g.0 q + went from g.1 queue q) (times_queued queue m q + came p (effect g.1) queue q)
      (same queue q);
  stood = stood;
}

-- nothing is done
unchanged : (m : MonitorRec) (p : ℕ) (effect : Option Granted → Effect) →
    ((queue : Queue) (q : ℕ) → Fits queue (times_queued queue m q + 0) (times_queued queue m q + came p (effect None) queue q)) →
    Balanced m p effect (m, None)
unchanged m p effect fits = record { from = ForEntry; fits = fits; stood = λ r is. absurd cc }

holder_alone : (m : MonitorRec) (holder : Option Hold) (queue : Queue) (q : ℕ) →
    times_queued queue (record m { holder = holder }) q ≡ times_queued queue m q
holder_alone m holder ForEntry q = refl
holder_alone m holder ForCondition q = refl
holder_alone m holder Urgently q = refl

-- ---- releasing

-- the queue from which a release takes somebody
abbrev freed_from : Option Hold → Queue
freed_from None = ForEntry
freed_from (Some h) = Urgently

first_times : (m : MonitorRec) (es : List ℕ) → m.entry ≡ es → (queue : Queue) (q : ℕ) →
    times_queued queue (first_of_entry m es).0 q + went ForEntry (first_of_entry m es).1 queue q ≡ times_queued queue m q
first_times m [] e ForEntry q = let k : times_entering q m.entry ≡ 0 = ap (times_entering q) e in omega arith
first_times m [] e ForCondition q = omega arith
first_times m [] e Urgently q = omega arith
first_times m (x ∷ xs) e ForEntry q = let k : times_entering q m.entry ≡ times_entering q (x ∷ xs) = ap (times_entering q) e in omega arith
first_times m (x ∷ xs) e ForCondition q = omega arith
first_times m (x ∷ xs) e Urgently q = omega arith

top_times : (m : MonitorRec) (o : Option Hold) → top_of m.urgent ≡ o → (queue : Queue) (q : ℕ) →
    times_queued queue (top_of_urgent m o).0 q + went (freed_from o) (top_of_urgent m o).1 queue q ≡ times_queued queue m q
top_times m None e queue q = first_times m m.entry refl queue q
top_times m (Some h) e ForEntry q = omega arith
top_times m (Some h) e ForCondition q = omega arith
top_times m (Some h) e Urgently q = let k = waiting-top q m.urgent h e in omega arith

released_times : (m : MonitorRec) (queue : Queue) (q : ℕ) →
    times_queued queue (released m).0 q + went (freed_from (top_of m.urgent)) (released m).1 queue q ≡ times_queued queue m q
released_times m queue q = top_times m (top_of m.urgent) refl queue q

-- who is taken from a queue stood in it
taken : (from : Queue) (granted : Option Granted) (r : Granted) (n k : ℕ) → granted ≡ Some r →
    n + went from granted from r.process ≡ k → 1 ≤ k
taken from granted r n k is e = let one = went_one from granted r is in omega arith

-- ---- leaving, and giving up

deep_times : (m : MonitorRec) (h : Hold) (b : Bool) (queue : Queue) (q : ℕ) →
    times_queued queue (leave_held m h b).0 q + went (freed_from (top_of m.urgent)) (leave_held m h b).1 queue q ≡ times_queued queue m q
deep_times m h true queue q =
    let k = holder_alone m (leave_held m h true).0.holder queue q in
    omega arith
deep_times m h false queue q = released_times m queue q

leave_times : (m : MonitorRec) (o : Option Hold) (queue : Queue) (q : ℕ) →
    times_queued queue (leave_by m o).0 q + went (freed_from (top_of m.urgent)) (leave_by m o).1 queue q ≡ times_queued queue m q
leave_times m None queue q = omega arith
leave_times m (Some h) queue q = deep_times m h (nat_lt 1 h.depth) queue q

module _ (m : MonitorRec) (p : ℕ) (effect : Option Granted → Effect)
    (idle : (r : Option Granted) (queue : Queue) (q : ℕ) → came p (effect r) queue q ≡ 0) where
  -- the process that acts comes to no queue
  idly : (g : Granting) (from : Queue) →
      ((queue : Queue) (q : ℕ) → times_queued queue g.0 q + went from g.1 queue q ≡ times_queued queue m q) → Balanced m p effect g
  idly g from same =
      exactly m p effect g from (λ queue q. let e = same queue q in let z = idle g.1 queue q in omega arith)
      (λ r is. taken from g.1 r (times_queued from g.0 r.process) (times_queued from m r.process) is (same from r.process))

  idle_none : Balanced m p effect (m, None)
  idle_none = idly (m, None) ForEntry (λ queue q. omega arith)

  by_holding : (act : Granting) → Balanced m p effect act → Balanced m p effect (by_holder p m act)
  by_holding act h = if_case (λ (g : Granting). Balanced m p effect g) (is_held_by m p) act (m, None) (λ e. h) (λ e. idle_none)

  pub left_balanced : Balanced m p effect (by_holder p m (left m))
  left_balanced = by_holding (left m) (idly (left m) (freed_from (top_of m.urgent)) (leave_times m m.holder))

  pub dropped_balanced : Balanced m p effect (by_holder p m (dropped m))
  dropped_balanced = by_holding (dropped m) (idly (dropped m) (freed_from (top_of m.urgent)) (released_times m))

-- ---- entering

again_times : (m : MonitorRec) (p own : ℕ) (h : Hold) (b : Bool) (queue : Queue) (q : ℕ) →
    times_queued queue (enter_held m p h b).0 q ≡ times_queued queue m q + came p (entry_effect own (enter_held m p h b).1) queue q
again_times m p own h true queue q = let k = holder_alone m (enter_held m p h true).0.holder queue q in omega arith
again_times m p own h false ForEntry q = let k = entering-push q m.entry p in omega arith
again_times m p own h false ForCondition q = omega arith
again_times m p own h false Urgently q = omega arith

enter_times : (m : MonitorRec) (p own : ℕ) (o : Option Hold) (queue : Queue) (q : ℕ) →
    times_queued queue (enter_by m p o).0 q ≡ times_queued queue m q + came p (entry_effect own (enter_by m p o).1) queue q
enter_times m p own None queue q = let k = holder_alone m (enter_by m p None).0.holder queue q in omega arith
enter_times m p own (Some h) queue q = again_times m p own h (h.process == p) queue q

pub entered_balanced : (m : MonitorRec) (p own : ℕ) → Balanced m p (λ r. entry_effect own (entered m p).1) ((entered m p).0, None)
entered_balanced m p own =
    exactly m p (λ r. entry_effect own (entered m p).1) ((entered m p).0, None) ForEntry
    (λ queue q. let e = enter_times m p own m.holder queue q in omega arith) (λ r is. absurd cc)

-- ---- waiting

more_times : (m : MonitorRec) (c : ℕ) (h : Hold) → c < length m.conditions → (queue : Queue) (q : ℕ) →
    times_queued queue (record m { holder = None; conditions = slice_set m.conditions c (waiting_for m c ++ h ∷ []) }) q ≡
    times_queued queue m q + in_queue ForCondition h.process queue q
more_times m c h there ForEntry q = omega arith
more_times m c h there ForCondition q =
    let s = queues-set q m.conditions c (waiting_for m c ++ h ∷ []) there in
    let w = waiting-push q (waiting_for m c) h in
    omega arith
more_times m c h there Urgently q = omega arith

wait_times : (m : MonitorRec) (c p : ℕ) (o : Option Hold) → c < length m.conditions → is_hold_of p o ≡ true → (queue : Queue) (q : ℕ) →
    times_queued queue (wait_by m c o).0 q + went (freed_from (top_of m.urgent)) (wait_by m c o).1 queue q ≡
    times_queued queue m q + in_queue ForCondition p queue q
wait_times m c p None there held queue q = absurd cc
wait_times m c p (Some h) there held queue q =
    let e = released_times (record m { holder = None; conditions = slice_set m.conditions c (waiting_for m c ++ h ∷ []) }) queue q in
    let k = more_times m c h there queue q in
    let s : h.process ≡ p = (Decides-eqb h.process p).0 held in
    let t : in_queue ForCondition h.process queue q ≡ in_queue ForCondition p queue q = ap (λ (n : ℕ). in_queue ForCondition n queue q) s in
    omega arith

-- a release takes nobody from the queue of a condition
freed_same : (m : MonitorRec) (queues : List (List Hold)) (o : Option Hold) (q : ℕ) →
    times_queued (freed_from o) (record m { holder = None; conditions = queues }) q ≡ times_queued (freed_from o) m q
freed_same m queues None q = refl
freed_same m queues (Some h) q = refl

wait_stood : (m : MonitorRec) (c : ℕ) (o : Option Hold) (r : Granted) → (wait_by m c o).1 ≡ Some r →
    1 ≤ times_queued (freed_from (top_of m.urgent)) m r.process
wait_stood m c None r is = absurd cc
wait_stood m c (Some h) r is =
    let queues = slice_set m.conditions c (waiting_for m c ++ h ∷ []) in
    let after : MonitorRec = record m { holder = None; conditions = queues } in
    let from = freed_from (top_of m.urgent) in
    let k : 1 ≤ times_queued from after r.process =
    taken from (released after).1 r (times_queued from (released after).0 r.process) (times_queued from after r.process) is
    (released_times after from r.process) in
    let s = freed_same m queues (top_of m.urgent) r.process in
    omega arith

module _ (m : MonitorRec) (p own c : ℕ) where
  -- who doesn't hold the monitor is blocked, and comes to no queue
  fewer : (queue : Queue) (q : ℕ) →
      Fits queue (times_queued queue m q + 0) (times_queued queue m q + came p (Blocks ForCondition own) queue q)
  fewer ForEntry q = refl
  fewer ForCondition q = omega arith
  fewer Urgently q = refl

  waits_by : is_held_by m p ≡ true → c < length m.conditions → Balanced m p (λ r. Blocks ForCondition own) (waited m c)
  waits_by held there =
      exactly m p (λ r. Blocks ForCondition own) (waited m c) (freed_from (top_of m.urgent)) (wait_times m c p m.holder there held)
      (wait_stood m c m.holder)

  waits_at : is_held_by m p ≡ true → Balanced m p (λ r. Blocks ForCondition own) (at_condition m c (waited m c))
  waits_at held =
      if_case (λ (g : Granting). Balanced m p (λ r. Blocks ForCondition own) g) (nat_lt c (length m.conditions)) (waited m c) (m, None)
      (λ e. waits_by held (grind (arith, nat_tests))) (λ e. unchanged m p (λ r. Blocks ForCondition own) fewer)

  pub waited_balanced : Balanced m p (λ r. Blocks ForCondition own) (by_holder p m (at_condition m c (waited m c)))
  waited_balanced =
      if_case (λ (g : Granting). Balanced m p (λ r. Blocks ForCondition own) g) (is_held_by m p) (at_condition m c (waited m c)) (m, None)
      waits_at (λ e. unchanged m p (λ r. Blocks ForCondition own) fewer)

-- ---- signalling

resumed_times : (m : MonitorRec) (c p own : ℕ) (h : Hold) (hs : List Hold) → c < length m.conditions → waiting_for m c ≡ hs →
    h.process ≡ p → (queue : Queue) (q : ℕ) →
    times_queued queue (resumed m c h hs).0 q + went ForCondition (resumed m c h hs).1 queue q ≡
    times_queued queue m q + came p (signal_effect own (resumed m c h hs).1) queue q
resumed_times m c p own h [] there e s queue q = refl
resumed_times m c p own h (x ∷ xs) there e s ForEntry q = omega arith
resumed_times m c p own h (x ∷ xs) there e s ForCondition q =
    let k = queues-set q m.conditions c xs there in
    let t : times_waiting q (waiting_for m c) ≡ times_waiting q (x ∷ xs) = ap (times_waiting q) e in
    omega arith
resumed_times m c p own h (x ∷ xs) there e s Urgently q =
    let k = waiting-push q m.urgent h in
    let t : in_queue Urgently h.process Urgently q ≡ in_queue Urgently p Urgently q = ap (λ (n : ℕ). in_queue Urgently n Urgently q) s in
    omega arith

resumed_stood : (m : MonitorRec) (c : ℕ) (h : Hold) (hs : List Hold) → c < length m.conditions → waiting_for m c ≡ hs →
    (r : Granted) → (resumed m c h hs).1 ≡ Some r → 1 ≤ times_queued ForCondition m r.process
resumed_stood m c h [] there e r is = absurd cc
resumed_stood m c h (x ∷ xs) there e r is =
    let k = resumed_times m c h.process 0 h (x ∷ xs) there e refl ForCondition r.process in
    let one = went_one ForCondition (resumed m c h (x ∷ xs)).1 r is in
    omega arith

module _ (m : MonitorRec) (p own c : ℕ) where
  none_signalled : Balanced m p (signal_effect own) (m, None)
  none_signalled =
      unchanged m p (signal_effect own)
      (λ queue q. fits_same queue (times_queued queue m q + 0) (times_queued queue m q + 0) refl)

  signals_by : (o : Option Hold) → is_hold_of p o ≡ true → c < length m.conditions → Balanced m p (signal_effect own) (signal_by m c o)
  signals_by None held there = absurd cc
  signals_by (Some h) held there =
      exactly m p (signal_effect own) (resumed m c h (waiting_for m c)) ForCondition
      (resumed_times m c p own h (waiting_for m c) there refl ((Decides-eqb h.process p).0 held))
      (resumed_stood m c h (waiting_for m c) there refl)

  signals_at : is_held_by m p ≡ true → Balanced m p (signal_effect own) (at_condition m c (signalled m c))
  signals_at held =
      if_case (λ (g : Granting). Balanced m p (signal_effect own) g) (nat_lt c (length m.conditions)) (signalled m c) (m, None)
      (λ e. signals_by m.holder held (grind (arith, nat_tests))) (λ e. none_signalled)

  pub signalled_balanced : Balanced m p (signal_effect own) (by_holder p m (at_condition m c (signalled m c)))
  signalled_balanced =
      if_case (λ (g : Granting). Balanced m p (signal_effect own) g) (is_held_by m p) (at_condition m c (signalled m c)) (m, None)
      signals_at (λ e. none_signalled)
