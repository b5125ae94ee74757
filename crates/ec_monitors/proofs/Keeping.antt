-- What every act keeps.
use Rattle.std.proofs.Common.{◌≡◌, ℕ, ◌+◌, ◌≤◌, ◌==◌, Bool, true, false, List, [], ◌∷◌, ◌++◌, Option, Some, None, refl, ap, arith}
use Rattle.std.specs.Prelude.{slice_set, nat_lt, cond}
use Rattle.std.proofs.lemmas.Bool.Decides.{nat_tests}
use Rattle.ec_base.specs.Stack.{top_of}
use Rattle.ec_base.proofs.Stacks.{top_of_none}
use Rattle.ec_monitors.specs.declared.record.MonitorRec.{MonitorRec}
use Rattle.ec_monitors.specs.declared.record.Hold.{Hold}
use Rattle.ec_monitors.specs.Monitors.{is_held_by, is_hold_of, enter_by, enter_held, leave_by, leave_held, wait_by, signal_by}
use Rattle.ec_monitors.specs.Monitors.{resumed, released, top_of_urgent, first_of_entry, waiting_for}
use Rattle.ec_monitors.specs.Standing.{one_if, times_in, times_behind, times_held, StandsOnce}
use Rattle.ec_monitors.specs.Laws.{KeptByEachAct, FreeIsEmpty, times_coming}
use Rattle.ec_monitors.proofs.Standing.{queues-none}
use Rattle.ec_monitors.proofs.Counting.{nobody_lost}

-- each process stands at most once

not_held : (p : ℕ) (o : Option Hold) → is_hold_of p o ≡ false → times_held p o ≡ 0
not_held p None e = refl
not_held p (Some h) e = ap one_if e

one_comes : (m : MonitorRec) (p q : ℕ) (b : Bool) → (p == q) ≡ b → times_in m p ≡ 0 → times_in m q ≤ 1 → times_in m q + one_if b ≤ 1
one_comes m p q true e none once =
    let same : p ≡ q = grind (arith, nat_tests) in
    let k : times_in m p ≡ times_in m q = ap (times_in m) same in
    omega arith
one_comes m p q false e none once = omega arith

coming_by : (m : MonitorRec) (p q : ℕ) (b : Bool) → is_held_by m p ≡ b → times_behind m p ≡ 0 → times_in m q ≤ 1 →
    times_in m q + cond b 0 (one_if (p == q)) ≤ 1
coming_by m p q true e apart once = omega arith
coming_by m p q false e apart once = let k = not_held p m.holder e in one_comes m p q (p == q) refl (omega arith) once

-- who comes in stood nowhere in the monitor before
coming_once : (m : MonitorRec) (p q : ℕ) → times_behind m p ≡ 0 → times_in m q ≤ 1 → times_in m q + times_coming m p q ≤ 1
coming_once m p q apart once = coming_by m p q (is_held_by m p) refl apart once

pub each_once : KeptByEachAct StandsOnce
each_once = record {
  of_new = λ n q. let k = queues-none q n in omega arith;
  by_entering = λ m p apart once q. let k = nobody_lost.by_entering m p q in let r = coming_once m p q apart (once q) in omega arith;
  by_leaving = λ m once q. let k = nobody_lost.by_leaving m q in let o = once q in omega arith;
  by_waiting = λ m c there once q. let k = nobody_lost.by_waiting m c q there in let o = once q in omega arith;
  by_signalling = λ m c there once q. let k = nobody_lost.by_signalling m c q there in let o = once q in omega arith;
  by_dropping = λ m once q. let k = nobody_lost.by_dropping m q in let o = once q in omega arith;
}

-- a free monitor is empty

first_empty : (m : MonitorRec) (es : List ℕ) → top_of m.urgent ≡ None → FreeIsEmpty (first_of_entry m es).0
first_empty m [] e = λ free. (refl, top_of_none m.urgent e)
first_empty m (x ∷ xs) e = λ free. absurd cc

top_empty : (m : MonitorRec) (o : Option Hold) → top_of m.urgent ≡ o → FreeIsEmpty (top_of_urgent m o).0
top_empty m None e = first_empty m m.entry e
top_empty m (Some h) e = λ free. absurd cc

released_empty : (m : MonitorRec) → FreeIsEmpty (released m).0
released_empty m = top_empty m (top_of m.urgent) refl

held_empty : (m : MonitorRec) (p : ℕ) (h : Hold) (b : Bool) → m.holder ≡ Some h → FreeIsEmpty (enter_held m p h b).0
held_empty m p h true e = λ free. absurd cc
held_empty m p h false e = λ free. absurd cc

enter_empty : (m : MonitorRec) (p : ℕ) (o : Option Hold) → m.holder ≡ o → FreeIsEmpty (enter_by m p o).0
enter_empty m p None e = λ free. absurd cc
enter_empty m p (Some h) e = held_empty m p h (h.process == p) e

deep_empty : (m : MonitorRec) (h : Hold) (b : Bool) → FreeIsEmpty (leave_held m h b).0
deep_empty m h true = λ free. absurd cc
deep_empty m h false = released_empty m

leave_empty : (m : MonitorRec) (o : Option Hold) → FreeIsEmpty m → FreeIsEmpty (leave_by m o).0
leave_empty m None empty = empty
leave_empty m (Some h) empty = deep_empty m h (nat_lt 1 h.depth)

wait_empty : (m : MonitorRec) (c : ℕ) (o : Option Hold) → FreeIsEmpty m → FreeIsEmpty (wait_by m c o).0
wait_empty m c None empty = empty
wait_empty m c (Some h) empty =
    released_empty (record m { holder = None; conditions = slice_set m.conditions c (waiting_for m c ++ h ∷ []) })

resumed_empty : (m : MonitorRec) (c : ℕ) (h : Hold) (hs : List Hold) → FreeIsEmpty m → FreeIsEmpty (resumed m c h hs).0
resumed_empty m c h [] empty = empty
resumed_empty m c h (x ∷ xs) empty = λ free. absurd cc

signal_empty : (m : MonitorRec) (c : ℕ) (o : Option Hold) → FreeIsEmpty m → FreeIsEmpty (signal_by m c o).0
signal_empty m c None empty = empty
signal_empty m c (Some h) empty = resumed_empty m c h (waiting_for m c) empty

pub free_empty : KeptByEachAct FreeIsEmpty
free_empty = record {
  of_new = λ n free. (refl, refl);
  by_entering = λ m p apart empty. enter_empty m p m.holder refl;
  by_leaving = λ m empty. leave_empty m m.holder empty;
  by_waiting = λ m c there empty. wait_empty m c m.holder empty;
  by_signalling = λ m c there empty. signal_empty m c m.holder empty;
  by_dropping = λ m empty. released_empty m;
}
