-- Each act keeps who stands in a monitor, but for who comes in and who goes for good.
use Rattle.std.proofs.Common.{◌≡◌, ℕ, ◌+◌, ◌<◌, ◌==◌, Bool, true, false, List, [], ◌∷◌, ◌++◌, length, Option, Some, None, refl, ap, arith}
use Rattle.std.specs.Prelude.{slice_set, nat_lt, cond, if◌then◌else◌}
use Rattle.std.proofs.lemmas.Bool.Decides.{nat_tests}
use Rattle.ec_base.specs.Stack.{top_of}
use Rattle.ec_monitors.specs.declared.record.MonitorRec.{MonitorRec}
use Rattle.ec_monitors.specs.declared.record.Hold.{Hold}
use Rattle.ec_monitors.specs.Monitors.{is_hold_of, enter_by, enter_held, leave_by, leave_held, wait_by, signal_by, resumed}
use Rattle.ec_monitors.specs.Monitors.{released, top_of_urgent, first_of_entry, waiting_for}
use Rattle.ec_monitors.specs.Standing.{one_if, times_held, times_entering, times_waiting, times_behind, times_in}
use Rattle.ec_monitors.specs.Laws.{going_by, NobodyIsLost}
use Rattle.ec_monitors.proofs.Standing.{entering-push, waiting-push, waiting-top, queues-set}

-- releasing: those that waited stand in it still

first_times : (m : MonitorRec) (es : List ℕ) (q : ℕ) → m.entry ≡ es → times_in (first_of_entry m es).0 q ≡ times_behind m q
first_times m [] q e = let k : times_entering q m.entry ≡ 0 = ap (times_entering q) e in omega arith
first_times m (x ∷ xs) q e = let k : times_entering q m.entry ≡ one_if (x == q) + times_entering q xs =
    ap (times_entering q) e in omega arith

top_times : (m : MonitorRec) (o : Option Hold) (q : ℕ) → top_of m.urgent ≡ o → times_in (top_of_urgent m o).0 q ≡ times_behind m q
top_times m None q e = first_times m m.entry q refl
top_times m (Some h) q e = let k = waiting-top q m.urgent h e in omega arith

pub released_times : (m : MonitorRec) (q : ℕ) → times_in (released m).0 q ≡ times_behind m q
released_times m q = top_times m (top_of m.urgent) q refl

-- entering

held_times : (m : MonitorRec) (p q : ℕ) (h : Hold) (b : Bool) → m.holder ≡ Some h → (h.process == p) ≡ b
    → times_in (enter_held m p h b).0 q ≡ times_in m q + (if b then 0 else one_if (p == q))
held_times m p q h true e same =
    let k : times_held q m.holder ≡ one_if (h.process == q) = ap (times_held q) e in
    let s : h.process ≡ p = grind (arith, nat_tests) in
    let t : one_if (h.process == q) ≡ one_if (p == q) = ap (λ (n : ℕ). one_if (n == q)) s in
    omega arith
held_times m p q h false e other = let k = entering-push q m.entry p in omega arith

enter_times : (m : MonitorRec) (p q : ℕ) (o : Option Hold) → m.holder ≡ o →
    times_in (enter_by m p o).0 q ≡ times_in m q + (if is_hold_of p o then 0 else one_if (p == q))
enter_times m p q None e = let k : times_held q m.holder ≡ 0 = ap (times_held q) e in omega arith
enter_times m p q (Some h) e = held_times m p q h (h.process == p) e refl

-- leaving

deep_times : (m : MonitorRec) (q : ℕ) (h : Hold) (b : Bool) → m.holder ≡ Some h
    → times_in (leave_held m h b).0 q + cond b 0 (one_if (h.process == q)) ≡ times_in m q
deep_times m q h true e = let k : times_held q m.holder ≡ one_if (h.process == q) = ap (times_held q) e in omega arith
deep_times m q h false e =
    let k : times_held q m.holder ≡ one_if (h.process == q) = ap (times_held q) e in
    let r = released_times m q in
    omega arith

leave_times : (m : MonitorRec) (q : ℕ) (o : Option Hold) → m.holder ≡ o → times_in (leave_by m o).0 q + going_by q o ≡ times_in m q
leave_times m q None e = omega arith
leave_times m q (Some h) e = deep_times m q h (nat_lt 1 h.depth) e

-- waiting

wait_times : (m : MonitorRec) (c q : ℕ) (o : Option Hold) → c < length m.conditions → m.holder ≡ o →
    times_in (wait_by m c o).0 q ≡ times_in m q
wait_times m c q None there e = refl
wait_times m c q (Some h) there e =
    let k : times_held q m.holder ≡ one_if (h.process == q) = ap (times_held q) e in
    let r = released_times (record m { holder = None; conditions = slice_set m.conditions c (waiting_for m c ++ h ∷ []) }) q in
    let s = queues-set q m.conditions c (waiting_for m c ++ h ∷ []) there in
    let w = waiting-push q (waiting_for m c) h in
    omega arith

-- signalling

resumed_times : (m : MonitorRec) (c q : ℕ) (h : Hold) (hs : List Hold) → c < length m.conditions → m.holder ≡ Some h → waiting_for m c ≡ hs
    → times_in (resumed m c h hs).0 q ≡ times_in m q
resumed_times m c q h [] there e f = refl
resumed_times m c q h (x ∷ xs) there e f =
    let k : times_held q m.holder ≡ one_if (h.process == q) = ap (times_held q) e in
    let s = queues-set q m.conditions c xs there in
    let t : times_waiting q (waiting_for m c) ≡ one_if (x.process == q) + times_waiting q xs = ap (times_waiting q) f in
    let w = waiting-push q m.urgent h in
    omega arith

signal_times : (m : MonitorRec) (c q : ℕ) (o : Option Hold) → c < length m.conditions → m.holder ≡ o →
    times_in (signal_by m c o).0 q ≡ times_in m q
signal_times m c q None there e = refl
signal_times m c q (Some h) there e = resumed_times m c q h (waiting_for m c) there e refl

pub nobody_lost : NobodyIsLost
nobody_lost = record {
  by_entering = λ m p q. enter_times m p q m.holder refl;
  by_leaving = λ m q. leave_times m q m.holder refl;
  by_waiting = λ m c q there. wait_times m c q m.holder there refl;
  by_signalling = λ m c q there. signal_times m c q m.holder there refl;
  by_dropping = λ m q. let r = released_times m q in omega arith;
}
