-- Whoever stands in the queue of a condition waits for this one, entry by entry.
use Rattle.std.proofs.Common.{◌≡◌, ◌≢◌, ◌∙◌, ◌⊎◌, ◌∷◌, ◌++◌, ◌≤◌, ◌==◌, ℕ, zero, suc, true, false, [], List, length, Option, Some, None}
use Rattle.std.proofs.Common.{⊎_elim, inl, inr, refl, sym, ap, subst, arith}
use Rattle.std.proofs.lemmas.Bool.Decides.{Decides-eqb}
use Rattle.std.specs.Prelude.{nat_lt, replicate, slice_get, slice_set}
use Rattle.ec_monitors.specs.Monitors.{Granting, dropped, entered, is_held_by, is_hold_of, left, made}
use Rattle.ec_monitors.specs.Monitors.{queue_at, released, resumed, signal_by, signalled, wait_by, waited, waiting_for}
use Rattle.ec_monitors.specs.Standing.{WaitsNowhere, one_if, times_in_queues, times_waiting}
use Rattle.ec_monitors.specs.declared.record.Hold.{Hold}
use Rattle.ec_monitors.specs.declared.record.MonitorRec.{MonitorRec}
use Rattle.ec_world.proofs.Counting.{if_case, one_itself}
use Rattle.ec_world.proofs.Members.{has_either, has_later, has_none, has_one, has_parts}
use Rattle.ec_world.specs.declared.class.ClassRec.{ClassRec}
use Rattle.ec_world.specs.declared.common.Common.{Common}
use Rattle.ec_world.specs.declared.doing.Doing.{Doing}
use Rattle.ec_world.specs.declared.doing.Doing.TheVariants.{Passes, Prints, Defines, Stores, Makes, MakesVector, Invokes, Returns}
use Rattle.ec_world.specs.declared.doing.Doing.TheVariants.{Moves, Unfixes, Enters, Waits, Signals, Finishes, Breaks}
use Rattle.ec_world.specs.declared.object.ObjectRec.{ObjectRec}
use Rattle.ec_world.specs.declared.stop.Effect.{Effect}
use Rattle.ec_world.specs.declared.stop.Effect.TheVariants.{GoesOn, Calls, Leaves, Blocks, Ends, Fails}
use Rattle.ec_world.specs.declared.stop.Who.{Who}
use Rattle.ec_world.specs.Group.{Has}
use Rattle.ec_world.specs.Outcomes.{at_condition, by_holder, done, dropped_at, dropped_each, monitor_for, monitor_of}
use Rattle.ec_world.specs.World.{given_up}
use Rattle.ec_reached.proofs.Doing.{does, drops, monitor_after}
use Rattle.ec_reached.proofs.Monitors.{enter_conditions, leave_conditions, monitor_in, relate, relate_drop, released_conditions}
use Rattle.ec_reached.proofs.Procs.{set_parts}

-- ---- members of queues

-- a hold stands in the queue of the condition of a number
pub record IsIn (queues : List (List Hold)) (i : ℕ) (h : Hold) : Type 0 where
  pub queue : List Hold
  pub is : slice_get queues i ≡ Some queue
  pub has : Has queue h

same_in : (qs rs : List (List Hold)) (i : ℕ) (h : Hold) → rs ≡ qs → IsIn rs i h → IsIn qs i h
same_in qs rs i h e k = subst (λ z. IsIn z i h) e k

none_in : (n i : ℕ) (h : Hold) → IsIn (replicate n []) i h → ⊥
none_in zero i h k = let e = k.is in cc
none_in (suc n) zero h k = let e : [] ≡ k.queue = (let f = k.is in cc) in has_none h (subst (λ z. Has z h) (sym e) k.has)
none_in (suc n) (suc i) h k = none_in n i h (record { queue = k.queue; is = k.is; has = k.has })

at_has : (m : MonitorRec) (c : ℕ) (t : Option (List Hold)) → slice_get m.conditions c ≡ t → (h : Hold) → Has (queue_at t) h →
    IsIn m.conditions c h
at_has m c None e h k = absurd (has_none h k)
at_has m c (Some queue) e h k = record { queue = queue; is = e; has = k }

-- one queue is another: who stands in a queue then stood there, or stands in that
set_in : (qs : List (List Hold)) (c : ℕ) (new : List Hold) (i : ℕ) (h : Hold) → IsIn (slice_set qs c new) i h →
    IsIn qs i h ⊎ ((i ≡ c) × Has new h)
set_in qs c new i h k = ⊎_elim
    (λ (s : (i ≡ c) × (k.queue ≡ new)). inr (s.0, subst (λ z. Has z h) s.1 k.has))
    (λ (s : (i ≢ c) × (slice_get qs i ≡ Some k.queue)). inl (record { queue = k.queue; is = s.1; has = k.has }))
    (set_parts qs c new i k.queue k.is)

-- ---- acts

-- who stands in a queue after an act stood there before, or is p, which waits for this condition
abbrev Stayed : MonitorRec → ℕ → Option ℕ → MonitorRec → Type 0
Stayed m p for n = (i : ℕ) (h : Hold) → IsIn n.conditions i h → IsIn m.conditions i h ⊎ ((for ≡ Some i) × (h.process ≡ p))

by_same : (m : MonitorRec) (p : ℕ) (for : Option ℕ) (n : MonitorRec) → n.conditions ≡ m.conditions → Stayed m p for n
by_same m p for n e i h k = inl (same_in m.conditions n.conditions i h e k)

holder_stayed : (m : MonitorRec) (p : ℕ) (for : Option ℕ) (g : Granting) → (is_held_by m p ≡ true → Stayed m p for g.0) →
    Stayed m p for (by_holder p m g).0
holder_stayed m p for g h =
    if_case (λ (x : Granting). Stayed m p for x.0) (is_held_by m p) g (m, None) h (λ e. by_same m p for m refl)

condition_stayed : (m : MonitorRec) (p c : ℕ) (for : Option ℕ) (g : Granting) → Stayed m p for g.0 → Stayed m p for (at_condition m c g).0
condition_stayed m p c for g h =
    if_case (λ (x : Granting). Stayed m p for x.0) (nat_lt c (length m.conditions)) g (m, None) (λ e. h) (λ e. by_same m p for m refl)

wait_stayed : (m : MonitorRec) (p c : ℕ) (o : Option Hold) → m.holder ≡ o → is_hold_of p o ≡ true → Stayed m p (Some c) (wait_by m c o).0
wait_stayed m p c None at held i h k = absurd cc
wait_stayed m p c (Some x) at held i h k =
    let new : List Hold = waiting_for m c ++ x ∷ [] in
    let same : x.process ≡ p = (Decides-eqb x.process p).0 held in
    ⊎_elim
    (λ (j : IsIn m.conditions i h). inl j)
    (λ (j : (i ≡ c) × Has (waiting_for m c ++ x ∷ []) h). ⊎_elim
    (λ (f : Has (waiting_for m c) h). inl (subst (λ z. IsIn m.conditions z h) (sym j.0) (at_has m c (slice_get m.conditions c) refl h f)))
    (λ (f : Has (x ∷ []) h). inr (ap Some (sym j.0), ap (λ (z : Hold). z.process) (has_one x h f) ∙ same))
    (has_either h (waiting_for m c) (x ∷ []) j.1))
    (set_in m.conditions c new i h
    (same_in (slice_set m.conditions c new) (wait_by m c (Some x)).0.conditions i h
    (released_conditions (record m { holder = None; conditions = slice_set m.conditions c new })) k))

resumed_stayed : (m : MonitorRec) (p c : ℕ) (x : Hold) (hs : List Hold) → waiting_for m c ≡ hs → Stayed m p None (resumed m c x hs).0
resumed_stayed m p c x [] e i h k = inl k
resumed_stayed m p c x (y ∷ ys) e i h k = ⊎_elim
    (λ (j : IsIn m.conditions i h). inl j)
    (λ (j : (i ≡ c) × Has ys h).
    inl
    (subst (λ z. IsIn m.conditions z h) (sym j.0)
    (at_has m c (slice_get m.conditions c) refl h (subst (λ z. Has z h) (sym e) (has_later y h ys j.1)))))
    (set_in m.conditions c ys i h k)

signal_stayed : (m : MonitorRec) (p c : ℕ) (o : Option Hold) → Stayed m p None (signal_by m c o).0
signal_stayed m p c None i h k = inl k
signal_stayed m p c (Some x) i h k = resumed_stayed m p c x (waiting_for m c) refl i h k

-- for which condition a doing begins to wait
abbrev pub waits_for : Doing → Option ℕ
waits_for (Waits condition) = Some condition
waits_for _ = None

after_stayed : (p : ℕ) (doing : Doing) (m : MonitorRec) → Stayed m p (waits_for doing) (monitor_after p doing m)
after_stayed p Enters m = by_same m p None (entered m p).0 (enter_conditions m p m.holder)
after_stayed p (Returns given true section) m =
    holder_stayed m p None (left m) (λ e. by_same m p None (left m).0 (leave_conditions m m.holder))
after_stayed p (Waits c) m =
    holder_stayed m p (Some c) (at_condition m c (waited m c))
    (λ e. condition_stayed m p c (Some c) (waited m c) (wait_stayed m p c m.holder refl e))
after_stayed p (Signals c) m =
    holder_stayed m p None (at_condition m c (signalled m c))
    (λ e. condition_stayed m p c None (signalled m c) (signal_stayed m p c m.holder))
after_stayed p (Returns given false section) m = by_same m p None m refl
after_stayed p (Passes given) m = by_same m p None m refl
after_stayed p (Prints s) m = by_same m p None m refl
after_stayed p (Defines index v) m = by_same m p None m refl
after_stayed p (Stores oid i v) m = by_same m p None m refl
after_stayed p (Makes class given) m = by_same m p None m refl
after_stayed p (MakesVector of n) m = by_same m p None m refl
after_stayed p (Invokes op own args) m = by_same m p None m refl
after_stayed p (Moves members to fixes) m = by_same m p None m refl
after_stayed p (Unfixes x) m = by_same m p None m refl
after_stayed p Finishes m = by_same m p None m refl
after_stayed p (Breaks why line) m = by_same m p None m refl

-- ---- a doing

-- it stands in a queue of a monitor, where there is one
abbrev pub IsInIf : Option MonitorRec → ℕ → Hold → Type 0
IsInIf None i h = ⊥
IsInIf (Some m) i h = IsIn m.conditions i h

new_in : (k : ClassRec) (i : ℕ) (h : Hold) → IsInIf (monitor_for k) i h → ⊥
new_in k i h =
    if_case (λ (t : Option MonitorRec). IsInIf t i h → ⊥) k.monitored (Some (made (replicate k.conditions []))) None
    (λ e j. none_in k.conditions i h j) (λ e j. j)

pub does_in : (c : Common) (who : Who) (doing : Doing) (x i : ℕ) (h : Hold) → IsInIf (monitor_of (done c who doing).0 x) i h →
    IsInIf (monitor_of c x) i h ⊎ ((waits_for doing ≡ Some i) × (h.process ≡ who.process))
does_in c who doing x i h =
    relate c (done c who doing).0 who doing (does c who doing)
    (λ y k t k' t'. IsInIf t' i h → IsInIf t i h ⊎ ((waits_for doing ≡ Some i) × (h.process ≡ who.process)))
    (λ m k at j. after_stayed who.process doing m i h j)
    (λ k at j. absurd j) (λ y k t n j. inl j) (λ y k of j. absurd (new_in of i h j)) x

drop_in : (objects : List ObjectRec) (p oid x i : ℕ) (h : Hold) → IsInIf (monitor_in (dropped_at objects p oid).0 x) i h →
    IsInIf (monitor_in objects x) i h
drop_in objects p oid x i h =
    relate_drop objects (dropped_at objects p oid).0 p oid (drops objects p oid) (λ y t t'. IsInIf t' i h → IsInIf t i h)
    (λ m at j. if_case (λ (g : Granting). IsIn g.0.conditions i h → IsIn m.conditions i h) (is_held_by m p) (dropped m) (m, None)
    (λ e k. same_in m.conditions (released m).0.conditions i h (released_conditions m) k) (λ e k. k) j)
    (λ at j. j) (λ y t n j. j) x

each_in : (p : ℕ) (owns : List ℕ) (objects : List ObjectRec) (x i : ℕ) (h : Hold) →
    IsInIf (monitor_in (dropped_each p owns objects).0 x) i h → IsInIf (monitor_in objects x) i h
each_in p [] objects x i h j = j
each_in p (oid ∷ owns) objects x i h j = drop_in objects p oid x i h (each_in p owns (dropped_at objects p oid).0 x i h j)

pub given_in : (p : ℕ) (owns : List ℕ) (e : Effect) (objects : List ObjectRec) (x i : ℕ) (h : Hold) →
    IsInIf (monitor_in (given_up p owns e objects).0 x) i h → IsInIf (monitor_in objects x) i h
given_in p owns (Fails why line) objects x i h j = each_in p owns objects x i h j
given_in p owns (GoesOn given) objects x i h j = j
given_in p owns (Calls op own args) objects x i h j = j
given_in p owns (Leaves given) objects x i h j = j
given_in p owns (Blocks queue own) objects x i h j = j
given_in p owns Ends objects x i h j = j

-- ---- who stands in a queue waits

pub waiting_has : (hs : List Hold) (h : Hold) → Has hs h → 1 ≤ times_waiting h.process hs
waiting_has [] h k = absurd (has_none h k)
waiting_has (x ∷ xs) h k = ⊎_elim
    (λ (e : h ≡ x). let s : one_if (x.process == h.process) ≡ 1 = one_itself x.process h.process (ap (λ (z : Hold). z.process) (sym e)) in omega arith)
    (λ (i : Has xs h). let l = waiting_has xs h i in omega arith)
    (has_parts x h xs k)

queues_has : (qs : List (List Hold)) (i : ℕ) (queue : List Hold) (h : Hold) → slice_get qs i ≡ Some queue → Has queue h →
    1 ≤ times_in_queues h.process qs
queues_has [] i queue h e k = absurd cc
queues_has (x ∷ xs) zero queue h e k =
    let same : queue ≡ x = cc in
    let l : 1 ≤ times_waiting h.process x = subst (λ z. 1 ≤ times_waiting h.process z) same (waiting_has queue h k) in
    omega arith
queues_has (x ∷ xs) (suc i) queue h e k = let l = queues_has xs i queue h e k in omega arith

-- whoever waits nowhere stands in no queue
pub nowhere_in : (m : MonitorRec) (i : ℕ) (h : Hold) → WaitsNowhere m h.process → IsIn m.conditions i h → ⊥
nowhere_in m i h n k = let l = queues_has m.conditions i k.queue h k.is k.has in absurd (omega arith)
