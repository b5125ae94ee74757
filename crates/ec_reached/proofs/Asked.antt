-- Who stands in a monitor of an orderly world has asked to enter it, and the other way round.
use Rattle.std.proofs.Common.{◌≡◌, ◌∷◌, ◌≤◌, ◌==◌, ℕ, zero, suc, Bool, true, false, [], List, Option, Some, None}
use Rattle.std.proofs.Common.{⊎_elim, refl, sym, ap, subst, arith}
use Rattle.std.proofs.lemmas.Bool.Decides.{Decides-eqb}
use Rattle.std.specs.Prelude.{if◌then◌else◌, slice_get}
use Rattle.ec_monitors.specs.Laws.{AllDeep, DeepIf, EachDeep, HasDepths}
use Rattle.ec_monitors.specs.Monitors.{depth_by}
use Rattle.ec_monitors.specs.Standing.{one_if, times_entering}
use Rattle.ec_monitors.specs.declared.record.Hold.{Hold}
use Rattle.ec_monitors.specs.declared.record.MonitorRec.{MonitorRec}
use Rattle.ec_world.proofs.Counting.{one_equal}
use Rattle.ec_world.proofs.Members.{has_first, has_later, has_none, has_parts}
use Rattle.ec_world.specs.declared.class.ClassRec.{ClassRec}
use Rattle.ec_world.specs.declared.common.Common.{Common}
use Rattle.ec_world.specs.declared.process.Proc.{Proc}
use Rattle.ec_world.specs.declared.world.World.{World}
use Rattle.ec_world.specs.Group.{Has}
use Rattle.ec_world.specs.Meaning.{ActivationMeaning}
use Rattle.ec_world.specs.Outcomes.{monitor_of}
use Rattle.ec_reached.proofs.Order.{hold_counts}
use Rattle.ec_reached.specs.Depths.{asked_of, depth_among, depth_in_queues, has_asked, times_asked, times_asked_if}
use Rattle.ec_reached.specs.Laws.{EachAskedStands}
use Rattle.ec_reached.specs.Orderly.{HasAsked, IsWithin, Orderly, StandsIn}
use Rattle.ec_reached.specs.Orderly.IsWithin.{Holding, Signalling, Waiting}
use Rattle.ec_reached.specs.Orderly.StandsIn.{Within, Entering}

-- ---- each hold is one deep at least

held_deep : (t : Option Hold) (h : Hold) → t ≡ Some h → DeepIf t → 1 ≤ h.depth
held_deep None h e d = absurd cc
held_deep (Some x) h e d = let same : x ≡ h = cc in subst (λ (z : Hold). 1 ≤ z.depth) same d

each_deep : (hs : List Hold) (h : Hold) → EachDeep hs → Has hs h → 1 ≤ h.depth
each_deep [] h d k = absurd (has_none h k)
each_deep (x ∷ xs) h d k = ⊎_elim
    (λ (e : h ≡ x). subst (λ (z : Hold). 1 ≤ z.depth) (sym e) d.0)
    (λ (i : Has xs h). each_deep xs h d.1 i)
    (has_parts x h xs k)

all_deep : (qs : List (List Hold)) (queue : List Hold) → AllDeep qs → Has qs queue → EachDeep queue
all_deep [] queue d k = absurd (has_none queue k)
all_deep (x ∷ xs) queue d k = ⊎_elim
    (λ (e : queue ≡ x). subst (λ z. EachDeep z) (sym e) d.0)
    (λ (i : Has xs queue). all_deep xs queue d.1 i)
    (has_parts x queue xs k)

within_deep : (m : MonitorRec) (h : Hold) → HasDepths m → IsWithin m h → 1 ≤ h.depth
within_deep m h d (Holding e) = held_deep m.holder h e d.0
within_deep m h d (Signalling k) = each_deep m.urgent h d.1 k
within_deep m h d (Waiting queue at k) = each_deep queue h (all_deep m.conditions queue d.2 at) k

-- ---- who is deep in a monitor stands in it

by_depth : (q : ℕ) (h : Hold) → 1 ≤ depth_by q (Some h) → h.process ≡ q
by_depth q h l = by (h.process == q) refl l
  where
    by : (b : Bool) → (h.process == q) ≡ b → 1 ≤ (if b then h.depth else 0) → h.process ≡ q
    by true e k = (Decides-eqb h.process q).0 e
    by false e k = absurd (omega arith)

held_stands : (m : MonitorRec) (q : ℕ) (t : Option Hold) → m.holder ≡ t → 1 ≤ depth_by q t → StandsIn m q
held_stands m q None e l = absurd (omega arith)
held_stands m q (Some h) e l = Within h (Holding e) (by_depth q h l)

among_stands : (m : MonitorRec) (q : ℕ) (hs : List Hold) → ((h : Hold) → Has hs h → IsWithin m h) → 1 ≤ depth_among q hs → StandsIn m q
among_stands m q [] f l = absurd (omega arith)
among_stands m q (x ∷ xs) f l = by (depth_by q (Some x)) refl (λ k. among_stands m q xs (λ h i. f h (has_later x h xs i)) k)
  where
    by : (n : ℕ) → depth_by q (Some x) ≡ n → (1 ≤ depth_among q xs → StandsIn m q) → StandsIn m q
    by zero e rest = rest (omega arith)
    by (suc n) e rest = Within x (f x (has_first x xs)) (by_depth q x (omega arith))

queues_stand : (m : MonitorRec) (q : ℕ) (qs : List (List Hold)) → ((queue : List Hold) → Has qs queue → Has m.conditions queue) →
    1 ≤ depth_in_queues q qs → StandsIn m q
queues_stand m q [] f l = absurd (omega arith)
queues_stand m q (x ∷ xs) f l =
    by (depth_among q x) refl (λ k. queues_stand m q xs (λ queue i. f queue (has_later x queue xs i)) k)
  where
    by : (n : ℕ) → depth_among q x ≡ n → (1 ≤ depth_in_queues q xs → StandsIn m q) → StandsIn m q
    by zero e rest = rest (omega arith)
    by (suc n) e rest = among_stands m q x (λ h k. Waiting x (f x (has_first x xs)) k) (omega arith)

entering_has : (xs : List ℕ) (q : ℕ) → 1 ≤ times_entering q xs → Has xs q
entering_has [] q l = absurd (omega arith)
entering_has (x ∷ xs) q l = by (one_if (x == q)) refl (λ k. entering_has xs q k)
  where
    by : (n : ℕ) → one_if (x == q) ≡ n → (1 ≤ times_entering q xs → Has xs q) → Has (x ∷ xs) q
    by zero e rest = has_later x q xs (rest (omega arith))
    by (suc n) e rest = subst (λ z. Has (x ∷ xs) z) (one_equal x q (omega arith)) (has_first x xs)

asked_stands : (m : MonitorRec) (q : ℕ) → 1 ≤ asked_of (Some m) q → StandsIn m q
asked_stands m q l = by (times_entering q m.entry) (depth_by q m.holder) (depth_among q m.urgent) refl refl refl
  where
    by : (n k j : ℕ) → times_entering q m.entry ≡ n → depth_by q m.holder ≡ k → depth_among q m.urgent ≡ j → StandsIn m q
    by (suc n) k j e f g = Entering (entering_has m.entry q (omega arith))
    by zero (suc k) j e f g = held_stands m q m.holder refl (omega arith)
    by zero zero (suc j) e f g = among_stands m q m.urgent (λ h i. Signalling i) (omega arith)
    by zero zero zero e f g = queues_stand m q m.conditions (λ queue i. i) (omega arith)

module _ {A : Type 0} (M : ActivationMeaning A) where
  -- ---- activations that have asked

  one_asked : (c : Common) (o : ℕ) (xs : List A) → 1 ≤ times_asked M c o xs → (a : A) × (Has xs a × (has_asked M c o a ≡ true))
  one_asked c o [] l = absurd (omega arith)
  one_asked c o (x ∷ xs) l = by (has_asked M c o x) refl (λ k. one_asked c o xs k)
    where
      by : (b : Bool) → has_asked M c o x ≡ b → (1 ≤ times_asked M c o xs → (a : A) × (Has xs a × (has_asked M c o a ≡ true))) →
          (a : A) × (Has (x ∷ xs) a × (has_asked M c o a ≡ true))
      by true e rest = (x, (has_first x xs, e))
      by false e rest =
          let n : one_if (has_asked M c o x) ≡ 0 = ap one_if e in
          let r = rest (omega arith) in
          (r.0, (has_later x r.0 xs r.1.0, r.1.1))

  asked_one : (c : Common) (o : ℕ) (xs : List A) (a : A) → Has xs a → has_asked M c o a ≡ true → 1 ≤ times_asked M c o xs
  asked_one c o [] a h e = absurd (has_none a h)
  asked_one c o (x ∷ xs) a h e = ⊎_elim
      (λ (s : a ≡ x). let n : one_if (has_asked M c o x) ≡ 1 = ap one_if (subst (λ z. has_asked M c o z ≡ true) s e) in omega arith)
      (λ (k : Has xs a). let l = asked_one c o xs a k e in omega arith)
      (has_parts x a xs h)

  module _ (classes : List ClassRec) (w : World A) (order : Orderly M classes w) where
    there_asked : (o q : ℕ) (t : Option (Proc A)) → slice_get w.processes q ≡ t → 1 ≤ times_asked_if M w.common o t → HasAsked M w o q
    there_asked o q None e l = absurd (omega arith)
    there_asked o q (Some proc) e l =
        let a = one_asked w.common o proc.activations l in
        record { proc = proc; there = e; of = a.0; member = a.1.0; asked = a.1.1 }

    within_asked : (o : ℕ) (m : MonitorRec) (h : Hold) → monitor_of w.common o ≡ Some m → IsWithin m h → HasAsked M w o h.process
    within_asked o m h at k =
        let e = hold_counts M classes w order o m h at k in
        let l = within_deep m h (order.deep o m at) k in
        there_asked o h.process (slice_get w.processes h.process) refl (omega arith)

    monitor_there : (o q : ℕ) (t : Option MonitorRec) → monitor_of w.common o ≡ t → 1 ≤ asked_of t q →
        (m : MonitorRec) × ((monitor_of w.common o ≡ Some m) × StandsIn m q)
    monitor_there o q None e l = absurd (omega arith)
    monitor_there o q (Some m) e l = (m, (e, asked_stands m q l))

    stands_there : (o q : ℕ) → HasAsked M w o q → (m : MonitorRec) × ((monitor_of w.common o ≡ Some m) × StandsIn m q)
    stands_there o q k =
        let l = asked_one w.common o k.proc.activations k.of k.member k.asked in
        let e : times_asked_if M w.common o (slice_get w.processes q) ≡ times_asked M w.common o k.proc.activations =
        ap (times_asked_if M w.common o) k.there in
        let d = order.depths o q in
        monitor_there o q (monitor_of w.common o) refl (omega arith)

  pub asked_stand : EachAskedStands M
  asked_stand classes w order = record { within = within_asked classes w order; asked = stands_there classes w order }
