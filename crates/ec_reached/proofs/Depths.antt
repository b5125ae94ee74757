-- How deep processes are in a monitor after an act, with those that wait to enter it.
use Rattle.std.proofs.Common.{◌≡◌, ◌≢◌, ◌∙◌, ◌∷◌, ◌++◌, ◌<◌, ◌≤◌, ◌+◌, ◌-◌, ◌==◌, ℕ, zero, suc, Bool, true, false, [], List, length, Option}
use Rattle.std.proofs.Common.{Some, None, refl, sym, ap, subst, arith}
use Rattle.std.proofs.lemmas.Bool.Decides.{nat_tests, Decides-eqb}
use Rattle.std.specs.Prelude.{if◌then◌else◌, nat_lt, slice_get, slice_set, replicate}
use Rattle.ec_base.specs.Stack.{below_of, top_of}
use Rattle.ec_monitors.proofs.Standing.{entering-push}
use Rattle.ec_monitors.specs.Monitors.{Granting, depth_by, dropped, enter_by, enter_held, entered, first_of_entry, is_held_by, is_hold_of, leave_by}
use Rattle.ec_monitors.specs.Monitors.{leave_held, left, made, queue_at, released, resumed, signal_by, signalled, top_of_urgent, wait_by, waited}
use Rattle.ec_monitors.specs.Monitors.{waiting_for}
use Rattle.ec_monitors.specs.Standing.{WaitsNowhere, one_if, times_entering, times_in_queues, times_waiting}
use Rattle.ec_monitors.specs.declared.record.Hold.{Hold}
use Rattle.ec_monitors.specs.declared.record.MonitorRec.{MonitorRec}
use Rattle.ec_world.proofs.Counting.{equal_case, if_case}
use Rattle.ec_world.specs.Outcomes.{by_holder}
use Rattle.ec_reached.specs.Depths.{asked_of, depth_among, depth_in_queues}

abbrev pub deep : MonitorRec → ℕ → ℕ
deep m q = asked_of (Some m) q

-- ---- lists of holds

one_deep : (p q : ℕ) → depth_by q (Some (record { process = p; depth = 1 })) ≡ one_if (p == q)
one_deep p q = equal_case (λ b. (if b then 1 else 0) ≡ one_if b) p q (λ e. refl) (λ n. refl)

among_push : (q : ℕ) (hs : List Hold) (h : Hold) → depth_among q (hs ++ h ∷ []) ≡ depth_among q hs + depth_by q (Some h)
among_push q [] h = omega arith
among_push q (x ∷ xs) h = let k = among_push q xs h in omega arith

among_top : (q : ℕ) (hs : List Hold) (h : Hold) → top_of hs ≡ Some h → depth_among q (below_of hs) + depth_by q (Some h) ≡ depth_among q hs
among_top q [] h e = absurd cc
among_top q (x ∷ []) h e = let same : x ≡ h = cc in let k : depth_by q (Some x) ≡ depth_by q (Some h) = ap (λ y. depth_by q (Some y)) same in omega arith
among_top q (x ∷ y ∷ ys) h e = let k = among_top q (y ∷ ys) h e in omega arith

queues_set : (q : ℕ) (qs : List (List Hold)) (c : ℕ) (new : List Hold) → c < length qs →
    depth_in_queues q (slice_set qs c new) + depth_among q (queue_at (slice_get qs c)) ≡ depth_in_queues q qs + depth_among q new
queues_set q [] c new l = absurd (omega arith)
queues_set q (x ∷ xs) zero new l = omega arith
queues_set q (x ∷ xs) (suc c) new l = let k = queues_set q xs c new (omega arith) in omega arith

queues_none : (q n : ℕ) → depth_in_queues q (replicate n []) ≡ 0
queues_none q zero = refl
queues_none q (suc n) = let k = queues_none q n in omega arith

pub made_deep : (n q : ℕ) → deep (made (replicate n [])) q ≡ 0
made_deep n q = let k = queues_none q n in omega arith

-- ---- releasing

first_deep : (m : MonitorRec) (es : List ℕ) → m.entry ≡ es → (q : ℕ) → deep (first_of_entry m es).0 q + depth_by q m.holder ≡ deep m q
first_deep m [] e q = let k : times_entering q m.entry ≡ 0 = ap (times_entering q) e in omega arith
first_deep m (x ∷ xs) e q =
    let k : times_entering q m.entry ≡ times_entering q (x ∷ xs) = ap (times_entering q) e in
    let one = one_deep x q in
    omega arith

top_deep : (m : MonitorRec) (o : Option Hold) → top_of m.urgent ≡ o → (q : ℕ) →
    deep (top_of_urgent m o).0 q + depth_by q m.holder ≡ deep m q
top_deep m None e q = first_deep m m.entry refl q
top_deep m (Some h) e q = let k = among_top q m.urgent h e in omega arith

-- the holder lets go of all its depth
pub released_deep : (m : MonitorRec) (q : ℕ) → deep (released m).0 q + depth_by q m.holder ≡ deep m q
released_deep m q = top_deep m (top_of m.urgent) refl q

-- ---- entering

again_deep : (m : MonitorRec) (p : ℕ) (h : Hold) → m.holder ≡ Some h → (b : Bool) → (h.process == p) ≡ b → (q : ℕ) →
    deep (enter_held m p h b).0 q ≡ deep m q + one_if (p == q)
again_deep m p h at true e q =
    let same : h.process ≡ p = (Decides-eqb h.process p).0 e in
    let k : depth_by q m.holder ≡ depth_by q (Some h) = ap (depth_by q) at in
    let n : depth_by q (Some (record { process = p; depth = h.depth + 1 })) ≡ depth_by q (Some h) + one_if (p == q) =
    subst (λ z. (if p == q then h.depth + 1 else 0) ≡ (if z == q then h.depth else 0) + one_if (p == q)) (sym same)
    (equal_case (λ b. (if b then h.depth + 1 else 0) ≡ (if b then h.depth else 0) + one_if b) p q (λ e. refl) (λ n. refl)) in
    omega arith
again_deep m p h at false e q = let k = entering-push q m.entry p in omega arith

enter_deep : (m : MonitorRec) (p : ℕ) (o : Option Hold) → m.holder ≡ o → (q : ℕ) → deep (enter_by m p o).0 q ≡ deep m q + one_if (p == q)
enter_deep m p None e q =
    let k : depth_by q m.holder ≡ 0 = ap (depth_by q) e in
    let one = one_deep p q in
    omega arith
enter_deep m p (Some h) e q = again_deep m p h e (h.process == p) refl q

-- one more that asked
pub entered_deep : (m : MonitorRec) (p q : ℕ) → deep (entered m p).0 q ≡ deep m q + one_if (p == q)
entered_deep m p q = enter_deep m p m.holder refl q

-- ---- leaving

less_by : (h : Hold) (q : ℕ) → 1 < h.depth →
    depth_by q (Some (record { process = h.process; depth = h.depth - 1 })) + one_if (h.process == q) ≡ depth_by q (Some h)
less_by h q l =
    equal_case (λ b. (if b then h.depth - 1 else 0) + one_if b ≡ (if b then h.depth else 0)) h.process q (λ e. omega arith) (λ n. refl)

once_by : (h : Hold) (q : ℕ) → h.depth ≡ 1 → depth_by q (Some h) ≡ one_if (h.process == q)
once_by h q e = equal_case (λ b. (if b then h.depth else 0) ≡ one_if b) h.process q (λ k. e) (λ n. refl)

less_deep : (m : MonitorRec) (h : Hold) → m.holder ≡ Some h → 1 ≤ h.depth → (b : Bool) → nat_lt 1 h.depth ≡ b → (q : ℕ) →
    deep (leave_held m h b).0 q + one_if (h.process == q) ≡ deep m q
less_deep m h at l true e q =
    let k : depth_by q m.holder ≡ depth_by q (Some h) = ap (depth_by q) at in
    let more : 1 < h.depth = grind (arith, nat_tests) in
    let n = less_by h q more in
    omega arith
less_deep m h at l false e q =
    let k : depth_by q m.holder ≡ depth_by q (Some h) = ap (depth_by q) at in
    let few : h.depth ≤ 1 = grind (arith, nat_tests) in
    let n = once_by h q (omega arith) in
    let r = released_deep m q in
    omega arith

left_by : (m : MonitorRec) (p : ℕ) (o : Option Hold) → m.holder ≡ o → is_hold_of p o ≡ true → 1 ≤ depth_by p o → (q : ℕ) →
    deep (leave_by m o).0 q + one_if (p == q) ≡ deep m q
left_by m p None at held l q = absurd cc
left_by m p (Some h) at held l q =
    let same : h.process ≡ p = (Decides-eqb h.process p).0 held in
    let here : depth_by p (Some h) ≡ h.depth = ap (λ b. if b then h.depth else 0) held in
    let k = less_deep m h at (omega arith) (nat_lt 1 h.depth) refl q in
    subst (λ z. deep (leave_by m (Some h)).0 q + one_if (z == q) ≡ deep m q) same k

-- one fewer
pub left_deep : (m : MonitorRec) (p q : ℕ) → is_held_by m p ≡ true → 1 ≤ depth_by p m.holder → deep (left m).0 q + one_if (p == q) ≡ deep m q
left_deep m p q held l = left_by m p m.holder refl held l q

-- ---- waiting and signalling

wait_deep : (m : MonitorRec) (c : ℕ) (o : Option Hold) → m.holder ≡ o → c < length m.conditions → (q : ℕ) →
    deep (wait_by m c o).0 q ≡ deep m q
wait_deep m c None e l q = refl
wait_deep m c (Some h) e l q =
    let after : MonitorRec = record m { holder = None; conditions = slice_set m.conditions c (waiting_for m c ++ h ∷ []) } in
    let r = released_deep after q in
    let s = queues_set q m.conditions c (waiting_for m c ++ h ∷ []) l in
    let w = among_push q (waiting_for m c) h in
    let k : depth_by q m.holder ≡ depth_by q (Some h) = ap (depth_by q) e in
    omega arith

pub waited_deep : (m : MonitorRec) (c q : ℕ) → c < length m.conditions → deep (waited m c).0 q ≡ deep m q
waited_deep m c q l = wait_deep m c m.holder refl l q

resumed_deep : (m : MonitorRec) (c : ℕ) (h : Hold) (hs : List Hold) → m.holder ≡ Some h → c < length m.conditions → waiting_for m c ≡ hs →
    (q : ℕ) → deep (resumed m c h hs).0 q ≡ deep m q
resumed_deep m c h [] at l e q = refl
resumed_deep m c h (x ∷ xs) at l e q =
    let k : depth_by q m.holder ≡ depth_by q (Some h) = ap (depth_by q) at in
    let s = queues_set q m.conditions c xs l in
    let t : depth_among q (waiting_for m c) ≡ depth_among q (x ∷ xs) = ap (depth_among q) e in
    let u = among_push q m.urgent h in
    omega arith

signal_deep : (m : MonitorRec) (c : ℕ) (o : Option Hold) → m.holder ≡ o → c < length m.conditions → (q : ℕ) →
    deep (signal_by m c o).0 q ≡ deep m q
signal_deep m c None e l q = refl
signal_deep m c (Some h) e l q = resumed_deep m c h (waiting_for m c) e l refl q

pub signalled_deep : (m : MonitorRec) (c q : ℕ) → c < length m.conditions → deep (signalled m c).0 q ≡ deep m q
signalled_deep m c q l = signal_deep m c m.holder refl l q

-- ---- who waits nowhere

pub among_none : (q : ℕ) (hs : List Hold) → times_waiting q hs ≡ 0 → depth_among q hs ≡ 0
among_none q [] e = refl
among_none q (h ∷ hs) e =
    let k = among_none q hs (omega arith) in
    let n : one_if (h.process == q) ≡ 0 = omega arith in
    let d : depth_by q (Some h) ≡ 0 = equal_case (λ b. one_if b ≡ 0 → (if b then h.depth else 0) ≡ 0) h.process q (λ s z. absurd (omega arith)) (λ s z. refl) n in
    omega arith

pub in_queues_none : (q : ℕ) (qs : List (List Hold)) → times_in_queues q qs ≡ 0 → depth_in_queues q qs ≡ 0
in_queues_none q [] e = refl
in_queues_none q (hs ∷ more) e =
    let k = in_queues_none q more (omega arith) in
    let d = among_none q hs (omega arith) in
    omega arith

-- is as deep as it holds
pub nowhere_deep : (m : MonitorRec) (p : ℕ) → WaitsNowhere m p → deep m p ≡ depth_by p m.holder
nowhere_deep m p e =
    let u = among_none p m.urgent (omega arith) in
    let c = in_queues_none p m.conditions (omega arith) in
    omega arith

depth_holds : (p : ℕ) (o : Option Hold) → 1 ≤ depth_by p o → is_hold_of p o ≡ true
depth_holds p None l = absurd (omega arith)
depth_holds p (Some h) l =
    equal_case (λ b. 1 ≤ (if b then h.depth else 0) → b ≡ true) h.process p (λ e k. refl) (λ n k. absurd (omega arith)) l

-- who is deep, and waits nowhere, holds it
pub deep_holds : (m : MonitorRec) (p : ℕ) → WaitsNowhere m p → 1 ≤ deep m p → is_held_by m p ≡ true
deep_holds m p n l = let e = nowhere_deep m p n in depth_holds p m.holder (omega arith)

-- ---- giving up

drop_other : (p q : ℕ) (o : Option Hold) → is_hold_of p o ≡ true → p ≢ q → depth_by q o ≡ 0
drop_other p q None held n = absurd cc
drop_other p q (Some h) held n =
    let same : h.process ≡ p = (Decides-eqb h.process p).0 held in
    equal_case (λ b. (if b then h.depth else 0) ≡ 0) h.process q (λ e. absurd (n (sym same ∙ e))) (λ k. refl)

pub dropped_other : (m : MonitorRec) (p q : ℕ) → p ≢ q → deep (by_holder p m (dropped m)).0 q ≡ deep m q
dropped_other m p q n =
    if_case (λ (g : Granting). deep g.0 q ≡ deep m q) (is_held_by m p) (dropped m) (m, None)
    (λ e. let r = released_deep m q in let z = drop_other p q m.holder e n in omega arith)
    (λ e. refl)

pub hold_none : (p : ℕ) (o : Option Hold) → is_hold_of p o ≡ false → depth_by p o ≡ 0
hold_none p None e = refl
hold_none p (Some h) e = ap (λ b. if b then h.depth else 0) e

pub dropped_itself : (m : MonitorRec) (p : ℕ) → WaitsNowhere m p → deep (by_holder p m (dropped m)).0 p ≡ 0
dropped_itself m p n =
    let d = nowhere_deep m p n in
    if_case (λ (g : Granting). deep g.0 p ≡ 0) (is_held_by m p) (dropped m) (m, None)
    (λ e. let r = released_deep m p in omega arith)
    (λ e. let z = hold_none p m.holder e in omega arith)
