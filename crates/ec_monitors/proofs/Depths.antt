-- Each process that holds a monitor, or waits to go on in it, has entered it at least once.
use Rattle.std.proofs.Common.{◌≡◌, ℕ, zero, suc, ◌<◌, ◌≤◌, ◌==◌, Bool, true, false, List, [], ◌∷◌, ◌++◌, Option, Some, None, refl}
use Rattle.std.proofs.Common.{ap, arith}
use Rattle.std.specs.Prelude.{slice_get, slice_set, replicate, nat_lt}
use Rattle.std.proofs.lemmas.Bool.Decides.{nat_tests}
use Rattle.ec_base.specs.Stack.{top_of, below_of}
use Rattle.ec_monitors.specs.declared.record.MonitorRec.{MonitorRec}
use Rattle.ec_monitors.specs.declared.record.Hold.{Hold}
use Rattle.ec_monitors.specs.Monitors.{enter_by, enter_held, leave_by, leave_held, wait_by, signal_by, resumed, released}
use Rattle.ec_monitors.specs.Monitors.{top_of_urgent, first_of_entry, waiting_for, queue_at}
use Rattle.ec_monitors.specs.Laws.{KeptByEachAct, HasDepths, DeepIf, EachDeep, AllDeep}

deep_push : (xs : List Hold) (y : Hold) → EachDeep xs → 1 ≤ y.depth → EachDeep (xs ++ y ∷ [])
deep_push [] y deep h = (h, tt)
deep_push (x ∷ xs) y deep h = (deep.0, deep_push xs y deep.1 h)

deep_below : (xs : List Hold) → EachDeep xs → EachDeep (below_of xs)
deep_below [] deep = tt
deep_below (x ∷ []) deep = tt
deep_below (x ∷ y ∷ ys) deep = (deep.0, deep_below (y ∷ ys) deep.1)

deep_top : (xs : List Hold) (x : Hold) → top_of xs ≡ Some x → EachDeep xs → 1 ≤ x.depth
deep_top [] x e deep = absurd cc
deep_top (y ∷ []) x e deep = let same : y ≡ x = cc in let k : y.depth ≡ x.depth = ap (λ (h : Hold). h.depth) same in omega (arith, deep.0)
deep_top (y ∷ z ∷ zs) x e deep = deep_top (z ∷ zs) x e deep.1

all_set : (qs : List (List Hold)) (c : ℕ) (q : List Hold) → AllDeep qs → EachDeep q → AllDeep (slice_set qs c q)
all_set [] c q all deep = tt
all_set (r ∷ qs) zero q all deep = (deep, all.1)
all_set (r ∷ qs) (suc c) q all deep = (all.0, all_set qs c q all.1 deep)

all_at : (qs : List (List Hold)) (c : ℕ) → AllDeep qs → EachDeep (queue_at (slice_get qs c))
all_at [] c all = tt
all_at (r ∷ qs) zero all = all.0
all_at (r ∷ qs) (suc c) all = all_at qs c all.1

all_none : (n : ℕ) → AllDeep (replicate n [])
all_none zero = tt
all_none (suc n) = (tt, all_none n)

held_deep : (o : Option Hold) (h : Hold) → o ≡ Some h → DeepIf o → 1 ≤ h.depth
held_deep None h e deep = absurd cc
held_deep (Some g) h e deep = let same : g ≡ h = cc in let k : g.depth ≡ h.depth = ap (λ (x : Hold). x.depth) same in omega (arith, deep)

first_deep : (m : MonitorRec) (es : List ℕ) → EachDeep m.urgent → AllDeep m.conditions → HasDepths (first_of_entry m es).0
first_deep m [] urgent all = (tt, urgent, all)
first_deep m (x ∷ xs) urgent all = (omega arith, urgent, all)

top_deep : (m : MonitorRec) (o : Option Hold) → top_of m.urgent ≡ o → EachDeep m.urgent → AllDeep m.conditions →
    HasDepths (top_of_urgent m o).0
top_deep m None e urgent all = first_deep m m.entry urgent all
top_deep m (Some h) e urgent all = (deep_top m.urgent h e urgent, deep_below m.urgent urgent, all)

released_deep : (m : MonitorRec) → EachDeep m.urgent → AllDeep m.conditions → HasDepths (released m).0
released_deep m urgent all = top_deep m (top_of m.urgent) refl urgent all

again_deep : (m : MonitorRec) (p : ℕ) (h : Hold) (b : Bool) → HasDepths m → HasDepths (enter_held m p h b).0
again_deep m p h true deep = (omega arith, deep.1, deep.2)
again_deep m p h false deep = deep

enter_deep : (m : MonitorRec) (p : ℕ) (o : Option Hold) → HasDepths m → HasDepths (enter_by m p o).0
enter_deep m p None deep = (omega arith, deep.1, deep.2)
enter_deep m p (Some h) deep = again_deep m p h (h.process == p) deep

less_deep : (m : MonitorRec) (h : Hold) (b : Bool) → nat_lt 1 h.depth ≡ b → HasDepths m → HasDepths (leave_held m h b).0
less_deep m h true e deep = let k : 1 < h.depth = grind (arith, nat_tests) in (omega arith, deep.1, deep.2)
less_deep m h false e deep = released_deep m deep.1 deep.2

leave_deep : (m : MonitorRec) (o : Option Hold) → HasDepths m → HasDepths (leave_by m o).0
leave_deep m None deep = deep
leave_deep m (Some h) deep = less_deep m h (nat_lt 1 h.depth) refl deep

wait_deep : (m : MonitorRec) (c : ℕ) (o : Option Hold) → m.holder ≡ o → HasDepths m → HasDepths (wait_by m c o).0
wait_deep m c None e deep = deep
wait_deep m c (Some h) e deep =
    let queue = deep_push (waiting_for m c) h (all_at m.conditions c deep.2) (held_deep m.holder h e deep.0) in
    released_deep (record m { holder = None; conditions = slice_set m.conditions c (waiting_for m c ++ h ∷ []) }) deep.1
    (all_set m.conditions c (waiting_for m c ++ h ∷ []) deep.2 queue)

resumed_deep : (m : MonitorRec) (c : ℕ) (h : Hold) (hs : List Hold) → 1 ≤ h.depth → EachDeep hs → HasDepths m →
    HasDepths (resumed m c h hs).0
resumed_deep m c h [] k queue deep = deep
resumed_deep m c h (x ∷ xs) k queue deep = (queue.0, deep_push m.urgent h deep.1 k, all_set m.conditions c xs deep.2 queue.1)

signal_deep : (m : MonitorRec) (c : ℕ) (o : Option Hold) → m.holder ≡ o → HasDepths m → HasDepths (signal_by m c o).0
signal_deep m c None e deep = deep
signal_deep m c (Some h) e deep = resumed_deep m c h (waiting_for m c) (held_deep m.holder h e deep.0) (all_at m.conditions c deep.2) deep

pub each_deep : KeptByEachAct HasDepths
each_deep = record {
  of_new = λ n. (tt, tt, all_none n);
  by_entering = λ m p apart deep. enter_deep m p m.holder deep;
  by_leaving = λ m deep. leave_deep m m.holder deep;
  by_waiting = λ m c there deep. wait_deep m c m.holder refl deep;
  by_signalling = λ m c there deep. signal_deep m c m.holder refl deep;
  by_dropping = λ m deep. released_deep m deep.1 deep.2;
}
