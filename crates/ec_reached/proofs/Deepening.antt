-- What an action makes of how deep processes are in monitors, by its doing; and what a failed process gives up.
use Rattle.std.proofs.Common.{◌≡◌, ◌≢◌, ◌∙◌, ◌⊎◌, ◌∷◌, ◌≤◌, ◌+◌, ◌==◌, ℕ, Bool, true, false, [], List, length, Option, Some, None}
use Rattle.std.proofs.Common.{⊎_elim, inl, inr, refl, sym, ap, subst, arith}
use Rattle.std.proofs.lemmas.Bool.Decides.{nat_tests, Decides-eqb}
use Rattle.std.specs.Prelude.{if◌then◌else◌, nat_lt}
use Rattle.ec_monitors.proofs.Counting.{nobody_lost}
use Rattle.ec_monitors.specs.Monitors.{Granting, depth_by, dropped, is_held_by, left, signalled, waited}
use Rattle.ec_monitors.specs.Standing.{WaitsNowhere, one_if}
use Rattle.ec_monitors.specs.declared.record.MonitorRec.{MonitorRec}
use Rattle.ec_world.proofs.Counting.{count_if, equal_case, if_case}
use Rattle.ec_world.proofs.Members.{has_none, has_parts}
use Rattle.ec_world.specs.declared.class.ClassRec.{ClassRec}
use Rattle.ec_world.specs.declared.common.Common.{Common}
use Rattle.ec_world.specs.declared.doing.Doing.{Doing}
use Rattle.ec_world.specs.declared.doing.Doing.TheVariants.{Passes, Prints, Defines, Stores, Makes, MakesVector, Invokes, Returns}
use Rattle.ec_world.specs.declared.doing.Doing.TheVariants.{Moves, Unfixes, Enters, Waits, Signals, Finishes, Breaks}
use Rattle.ec_world.specs.declared.object.ObjectRec.{ObjectRec}
use Rattle.ec_world.specs.declared.stop.Effect.{Effect}
use Rattle.ec_world.specs.declared.stop.Effect.TheVariants.{GoesOn, Calls, Leaves, Blocks, Ends, Fails}
use Rattle.ec_world.specs.declared.stop.Who.{Who}
use Rattle.ec_world.specs.declared.value.Value.{Value}
use Rattle.ec_world.proofs.Keys.{same_or_not}
use Rattle.ec_world.specs.Group.{Has}
use Rattle.ec_world.specs.Outcomes.{at_condition, by_holder, dropped_at, dropped_each, monitor_for, monitor_of}
use Rattle.ec_world.specs.World.{given_up}
use Rattle.ec_reached.proofs.Depths.{deep, dropped_itself, dropped_other, entered_deep, left_deep, made_deep, signalled_deep, waited_deep}
use Rattle.ec_reached.proofs.Doing.{Does, drops, monitor_after}
use Rattle.ec_reached.proofs.Monitors.{monitor_in, relate, relate_drop}
use Rattle.ec_reached.specs.Depths.{asked_of}

-- ---- who comes and who goes

abbrev pub is_enters : Doing → Bool
is_enters Enters = true
is_enters _ = false

abbrev pub is_leaving : Doing → Bool
is_leaving (Returns given true section) = true
is_leaving _ = false

-- an entry finds a monitor, and who leaves one holds it
pub record MayEnter (c : Common) (who : Who) : Type 0 where
  pub monitor : MonitorRec
  pub is : monitor_of c who.own ≡ Some monitor

pub record MayLeave (c : Common) (who : Who) : Type 0 where
  pub monitor : MonitorRec
  pub is : monitor_of c who.own ≡ Some monitor
  pub held : is_held_by monitor who.process ≡ true
  pub deep : 1 ≤ depth_by who.process monitor.holder

abbrev pub MayDo : Common → Who → Doing → Type 0
MayDo c who Enters = MayEnter c who
MayDo c who (Returns given true section) = MayLeave c who
MayDo c who _ = Unit {0}

condition_same : (m : MonitorRec) (c q : ℕ) (g : Granting) → (nat_lt c (length m.conditions) ≡ true → deep g.0 q ≡ deep m q) →
    deep (at_condition m c g).0 q ≡ deep m q
condition_same m c q g h =
    if_case (λ (x : Granting). deep x.0 q ≡ deep m q) (nat_lt c (length m.conditions)) g (m, None) h (λ e. refl)

holder_same : (m : MonitorRec) (p q : ℕ) (g : Granting) → deep g.0 q ≡ deep m q → deep (by_holder p m g).0 q ≡ deep m q
holder_same m p q g h = if_case (λ (x : Granting). deep x.0 q ≡ deep m q) (is_held_by m p) g (m, None) (λ e. h) (λ e. refl)

module _ (c : Common) (who : Who) (q : ℕ) where
  abbrev same_here : Doing → MonitorRec → Type 0
  same_here doing m =
      deep (monitor_after who.process doing m) q + count_if (is_leaving doing) (one_if (who.process == q)) ≡
      deep m q + count_if (is_enters doing) (one_if (who.process == q))

  leave_here : (given : Option Value) (section : Option ℕ) (m : MonitorRec) → MayLeave c who →
      monitor_of c who.own ≡ Some m → same_here (Returns given true section) m
  leave_here given section m may at =
      let same : may.monitor ≡ m = (let i = may.is in let j = at in cc) in
      let held : is_held_by m who.process ≡ true = subst (λ x. is_held_by x who.process ≡ true) same may.held in
      let l : 1 ≤ depth_by who.process m.holder = subst (λ (x : MonitorRec). 1 ≤ depth_by who.process x.holder) same may.deep in
      let k = left_deep m who.process q held l in
      let e : (by_holder who.process m (left m)).0 ≡ (left m).0 = ap (λ b. (if b then left m else (m, None)).0) held in
      let f : deep (by_holder who.process m (left m)).0 q ≡ deep (left m).0 q = ap (λ x. deep x q) e in
      omega arith

  -- of the own monitor
  pub here : (doing : Doing) → MayDo c who doing → (m : MonitorRec) → monitor_of c who.own ≡ Some m → same_here doing m
  here Enters may m at = let k = entered_deep m who.process q in omega arith
  here (Returns given true section) may m at = leave_here given section m may at
  here (Returns given false section) may m at = refl
  here (Waits n) may m at =
      let k = holder_same m who.process q (at_condition m n (waited m n))
      (condition_same m n q (waited m n) (λ l. waited_deep m n q (grind (arith, nat_tests)))) in
      omega arith
  here (Signals n) may m at =
      let k = holder_same m who.process q (at_condition m n (signalled m n))
      (condition_same m n q (signalled m n) (λ l. signalled_deep m n q (grind (arith, nat_tests)))) in
      omega arith
  here (Passes given) may m at = refl
  here (Prints s) may m at = refl
  here (Defines index v) may m at = refl
  here (Stores oid i v) may m at = refl
  here (Makes class given) may m at = refl
  here (MakesVector of n) may m at = refl
  here (Invokes op own args) may m at = refl
  here (Moves members to fixes) may m at = refl
  here (Unfixes x) may m at = refl
  here Finishes may m at = refl
  here (Breaks why line) may m at = refl

  -- where there is no own monitor nobody comes or goes
  nobody : (doing : Doing) → MayDo c who doing → monitor_of c who.own ≡ None → (is_leaving doing ≡ false) × (is_enters doing ≡ false)
  nobody Enters may at = absurd (let i = may.is in cc)
  nobody (Returns given true section) may at = absurd (let i = may.is in cc)
  nobody (Returns given false section) may at = (refl, refl)
  nobody (Waits n) may at = (refl, refl)
  nobody (Signals n) may at = (refl, refl)
  nobody (Passes given) may at = (refl, refl)
  nobody (Prints s) may at = (refl, refl)
  nobody (Defines index v) may at = (refl, refl)
  nobody (Stores oid i v) may at = (refl, refl)
  nobody (Makes class given) may at = (refl, refl)
  nobody (MakesVector of n) may at = (refl, refl)
  nobody (Invokes op own args) may at = (refl, refl)
  nobody (Moves members to fixes) may at = (refl, refl)
  nobody (Unfixes x) may at = (refl, refl)
  nobody Finishes may at = (refl, refl)
  nobody (Breaks why line) may at = (refl, refl)

  -- by object and process
  abbrev pub Balance : Doing → ℕ → Option MonitorRec → Option MonitorRec → Type 0
  Balance doing x before after =
      asked_of after q + count_if (who.own == x) (count_if (is_leaving doing) (one_if (who.process == q))) ≡
      asked_of before q + count_if (who.own == x) (count_if (is_enters doing) (one_if (who.process == q)))

  itself : (n : ℕ) → (n == n) ≡ true
  itself n = (Decides-eqb n n).1 refl

  own_balance : (doing : Doing) (before after : Option MonitorRec) →
      asked_of after q + count_if (is_leaving doing) (one_if (who.process == q)) ≡
      asked_of before q + count_if (is_enters doing) (one_if (who.process == q)) → Balance doing who.own before after
  own_balance doing before after h =
      subst
      (λ b. asked_of after q + count_if b (count_if (is_leaving doing) (one_if (who.process == q))) ≡
      asked_of before q + count_if b (count_if (is_enters doing) (one_if (who.process == q)))) (sym (itself who.own)) h

  none_balance : (doing : Doing) → (is_leaving doing ≡ false) × (is_enters doing ≡ false) → Balance doing who.own None None
  none_balance doing n =
      own_balance doing None None
      (ap (λ b. 0 + count_if b (one_if (who.process == q))) n.0 ∙ sym (ap (λ b. 0 + count_if b (one_if (who.process == q))) n.1))

  other_balance : (doing : Doing) (x : ℕ) (t : Option MonitorRec) → who.own ≢ x → Balance doing x t t
  other_balance doing x t n =
      equal_case
      (λ b. asked_of t q + count_if b (count_if (is_leaving doing) (one_if (who.process == q))) ≡
      asked_of t q + count_if b (count_if (is_enters doing) (one_if (who.process == q)))) who.own x (λ e. absurd (n e)) (λ k. refl)

  new_asked : (k : ClassRec) → asked_of (monitor_for k) q ≡ 0
  new_asked k =
      if_case (λ (t : Option MonitorRec). asked_of t q ≡ 0) k.monitored _ None (λ e. made_deep k.conditions q) (λ e. refl)

  -- the object that is added isn't the own one where this has a monitor, and else nobody comes or goes
  added_balance : (doing : Doing) → MayDo c who doing → (x : ℕ) (k : ClassRec) → monitor_of c x ≡ None → Balance doing x None (monitor_for k)
  added_balance doing may x k none = by (same_or_not who.own x)
    where
      z : asked_of (monitor_for k) q ≡ 0
      z = new_asked k

      by : (who.own ≡ x) ⊎ (who.own ≢ x) → Balance doing x None (monitor_for k)
      by (inl e) =
          subst (λ y. Balance doing y None (monitor_for k)) e
          (own_balance doing None (monitor_for k)
          (let n = nobody doing may (subst (λ y. monitor_of c y ≡ None) (sym e) none) in
          let a : count_if (is_leaving doing) (one_if (who.process == q)) ≡ 0 = ap (λ b. count_if b (one_if (who.process == q))) n.0 in
          let b : count_if (is_enters doing) (one_if (who.process == q)) ≡ 0 = ap (λ b. count_if b (one_if (who.process == q))) n.1 in
          omega (arith, z)))
      by (inr n) =
          equal_case
          (λ b. asked_of (monitor_for k) q + count_if b (count_if (is_leaving doing) (one_if (who.process == q))) ≡
          0 + count_if b (count_if (is_enters doing) (one_if (who.process == q)))) who.own x (λ e. absurd (n e)) (λ k. omega (arith, z))

  pub balance : (d : Common) (doing : Doing) → Does c d who doing → MayDo c who doing → (x : ℕ) →
      Balance doing x (monitor_of c x) (monitor_of d x)
  balance d doing h may x =
      relate c d who doing h (λ y k t k' t'. monitor_of c y ≡ t → Balance doing y t t')
      (λ m k at e. own_balance doing (Some m) (Some (monitor_after who.process doing m)) (here doing may m at))
      (λ k at e. none_balance doing (nobody doing may at))
      (λ y k t n e. other_balance doing y t n)
      (λ y k of e. added_balance doing may y of e) x refl

-- ---- what a failed process gives up

abbrev pub NowhereIn : ℕ → List ObjectRec → Type 0
NowhereIn p objects = (x : ℕ) (m : MonitorRec) → monitor_in objects x ≡ Some m → WaitsNowhere m p

dropped_nowhere : (m : MonitorRec) (p : ℕ) → WaitsNowhere m p → WaitsNowhere (by_holder p m (dropped m)).0 p
dropped_nowhere m p n =
    if_case (λ (g : Granting). WaitsNowhere g.0 p) (is_held_by m p) (dropped m) (m, None)
    (λ e. let k = nobody_lost.by_dropping m p in omega arith) (λ e. n)

drop_nowhere : (objects : List ObjectRec) (p oid : ℕ) → NowhereIn p objects → NowhereIn p (dropped_at objects p oid).0
drop_nowhere objects p oid n x =
    relate_drop objects (dropped_at objects p oid).0 p oid (drops objects p oid)
    (λ y t t'. ((m : MonitorRec) → t ≡ Some m → WaitsNowhere m p) → (m : MonitorRec) → t' ≡ Some m → WaitsNowhere m p)
    (λ m at h k e.
    let same : (by_holder p m (dropped m)).0 ≡ k = cc in
    subst (λ z. WaitsNowhere z p) same (dropped_nowhere m p (h m refl)))
    (λ at h. h) (λ y t ne h. h) x (n x)

pub drop_other : (objects : List ObjectRec) (p oid q : ℕ) → p ≢ q → (x : ℕ) →
    asked_of (monitor_in (dropped_at objects p oid).0 x) q ≡ asked_of (monitor_in objects x) q
drop_other objects p oid q n x =
    relate_drop objects (dropped_at objects p oid).0 p oid (drops objects p oid) (λ y t t'. asked_of t' q ≡ asked_of t q)
    (λ m at. dropped_other m p q n) (λ at. refl) (λ y t ne. refl) x

pub each_other : (p : ℕ) (owns : List ℕ) (objects : List ObjectRec) (q : ℕ) → p ≢ q → (x : ℕ) →
    asked_of (monitor_in (dropped_each p owns objects).0 x) q ≡ asked_of (monitor_in objects x) q
each_other p [] objects q n x = refl
each_other p (oid ∷ owns) objects q n x = each_other p owns (dropped_at objects p oid).0 q n x ∙ drop_other objects p oid q n x

drop_less : (objects : List ObjectRec) (p oid : ℕ) → NowhereIn p objects → (x : ℕ) →
    asked_of (monitor_in (dropped_at objects p oid).0 x) p ≤ asked_of (monitor_in objects x) p
drop_less objects p oid n x =
    relate_drop objects (dropped_at objects p oid).0 p oid (drops objects p oid) (λ y t t'. asked_of t' p ≤ asked_of t p)
    (λ m at. let z = dropped_itself m p (n oid m at) in omega arith) (λ at. omega arith) (λ y t ne. omega arith) x

drop_none : (objects : List ObjectRec) (p oid : ℕ) → NowhereIn p objects → (x : ℕ) → x ≡ oid →
    asked_of (monitor_in (dropped_at objects p oid).0 x) p ≡ 0
drop_none objects p oid n x =
    relate_drop objects (dropped_at objects p oid).0 p oid (drops objects p oid) (λ y t t'. y ≡ oid → asked_of t' p ≡ 0)
    (λ m at e. dropped_itself m p (n oid m at)) (λ at e. refl) (λ y t ne e. absurd (ne (sym e))) x

each_less : (p : ℕ) (owns : List ℕ) (objects : List ObjectRec) → NowhereIn p objects → (x : ℕ) →
    asked_of (monitor_in (dropped_each p owns objects).0 x) p ≤ asked_of (monitor_in objects x) p
each_less p [] objects n x = omega arith
each_less p (oid ∷ owns) objects n x =
    let k = each_less p owns (dropped_at objects p oid).0 (drop_nowhere objects p oid n) x in
    let l = drop_less objects p oid n x in
    omega arith

-- nothing is left of the monitors of these objects
pub each_none : (p : ℕ) (owns : List ℕ) (objects : List ObjectRec) → NowhereIn p objects → (x : ℕ) → Has owns x →
    asked_of (monitor_in (dropped_each p owns objects).0 x) p ≡ 0
each_none p [] objects n x h = absurd (has_none x h)
each_none p (oid ∷ owns) objects n x h =
    let rest = drop_nowhere objects p oid n in
    ⊎_elim
    (λ (e : x ≡ oid).
    let z = drop_none objects p oid n x e in let l = each_less p owns (dropped_at objects p oid).0 rest x in omega arith)
    (λ (k : Has owns x). each_none p owns (dropped_at objects p oid).0 rest x k)
    (has_parts oid x owns h)

-- and nobody is deeper than before
pub each_none_before : (p : ℕ) (owns : List ℕ) (objects : List ObjectRec) → NowhereIn p objects → (x : ℕ) →
    asked_of (monitor_in objects x) p ≡ 0 → asked_of (monitor_in (dropped_each p owns objects).0 x) p ≡ 0
each_none_before p owns objects n x e = let l = each_less p owns objects n x in omega arith

pub given_other : (p : ℕ) (owns : List ℕ) (e : Effect) (objects : List ObjectRec) (q : ℕ) → p ≢ q → (x : ℕ) →
    asked_of (monitor_in (given_up p owns e objects).0 x) q ≡ asked_of (monitor_in objects x) q
given_other p owns (Fails why line) objects q n x = each_other p owns objects q n x
given_other p owns (GoesOn given) objects q n x = refl
given_other p owns (Calls op own args) objects q n x = refl
given_other p owns (Leaves given) objects q n x = refl
given_other p owns (Blocks queue own) objects q n x = refl
given_other p owns Ends objects q n x = refl
