-- The same by the members of queues.
use Rattle.std.proofs.Common.{◌≡◌, ℕ, zero, suc, ◌+◌, ◌≤◌, ◌==◌, false, List, [], ◌∷◌, ◌++◌, Option, Some, None, refl, ap, ◌∙◌}
use Rattle.std.proofs.Common.{arith}
use Rattle.std.specs.Prelude.{slice_get}
use Rattle.ec_monitors.specs.Standing.{one_if, times_entering, times_waiting, times_in_queues, WaitsNowhere}
use Rattle.ec_monitors.specs.declared.record.Hold.{Hold}
use Rattle.ec_monitors.specs.declared.record.MonitorRec.{MonitorRec}
use Rattle.ec_world.proofs.Members.{has_first, has_later}
use Rattle.ec_world.specs.Group.{Has}
use Rattle.ec_world.specs.Outcomes.{monitor_of}
use Rattle.ec_world.specs.World.{waiting}
use Rattle.ec_world.specs.declared.process.Proc.{Proc}
use Rattle.ec_world.specs.declared.process.ProcStatus.{ProcStatus}
use Rattle.ec_world.specs.declared.process.ProcStatus.TheVariants.{Ready, Entry, Cond, Urgent, Ended, Failed}
use Rattle.ec_world.specs.declared.stop.Queue.{Queue}
use Rattle.ec_world.specs.declared.stop.Queue.TheVariants.{ForEntry, ForCondition, Urgently}
use Rattle.ec_world.specs.declared.world.World.{World}
use Rattle.ec_world.specs.Laws.{EachQueueTells, EachStatusTells, UnblockedWaitNowhere}
use Rattle.ec_world.specs.Waiting.{AreBlocked, times_queued, times_queued_if, times_blocked, times_blocked_if, is_blocked, processes_of}
use Rattle.ec_world.specs.Waiting.{in_conditions, queued, HasStatus, WaitsAs, StandsIn}
use Rattle.ec_world.proofs.Counting.{equal_case, one_itself, at_most_one, fits_least}
use Rattle.ec_world.proofs.Objects.{told}
use Rattle.ec_world.proofs.Processes.{shown, stands, waiting_blocked}
use Rattle.ec_world.proofs.Worlds.{all_fit}

-- ---- how often a member stands in a list

times_from : (xs : List ℕ) (i q : ℕ) → slice_get xs i ≡ Some q → 1 ≤ times_entering q xs
times_from [] i q e = absurd cc
times_from (x ∷ xs) zero q e = let one = one_itself x q cc in omega arith
times_from (x ∷ xs) (suc i) q e = let k = times_from xs i q e in omega arith

times_has : (xs : List ℕ) (q : ℕ) → 1 ≤ times_entering q xs → Has xs q
times_has [] q h = absurd (omega arith)
times_has (x ∷ xs) q h =
    equal_case (λ b. 1 ≤ one_if b + times_entering q xs → Has (x ∷ xs) q) x q
    (λ e k. rw e (has_first q xs)) (λ n k. has_later x q xs (times_has xs q (omega arith))) h

times_both : (xs ys : List ℕ) (q : ℕ) → times_entering q (xs ++ ys) ≡ times_entering q xs + times_entering q ys
times_both [] ys q = omega arith
times_both (x ∷ xs) ys q = let k = times_both xs ys q in omega arith

held_times : (holds : List Hold) (q : ℕ) → times_entering q (processes_of holds) ≡ times_waiting q holds
held_times [] q = refl
held_times (h ∷ hs) q = let k = held_times hs q in omega arith

condition_times : (queues : List (List Hold)) (q : ℕ) → times_entering q (in_conditions queues) ≡ times_in_queues q queues
condition_times [] q = refl
condition_times (holds ∷ more) q =
    let k = condition_times more q in
    let b = times_both (processes_of holds) (in_conditions more) q in
    let h = held_times holds q in
    omega arith

queued_times : (m : MonitorRec) (q : ℕ) →
    times_entering q (queued m) ≡ times_queued ForEntry m q + times_queued Urgently m q + times_queued ForCondition m q
queued_times m q =
    let a = times_both m.entry (processes_of m.urgent ++ in_conditions m.conditions) q in
    let b = times_both (processes_of m.urgent) (in_conditions m.conditions) q in
    let h = held_times m.urgent q in
    let c = condition_times m.conditions q in
    omega arith

-- who stands in a list at most once has one place there
one_place : (xs : List ℕ) (q : ℕ) → times_entering q xs ≤ 1 → (i j : ℕ) → slice_get xs i ≡ Some q → slice_get xs j ≡ Some q → i ≡ j
one_place [] q h i j e f = absurd cc
one_place (x ∷ xs) q h zero zero e f = refl
one_place (x ∷ xs) q h zero (suc j) e f =
    let one = one_itself x q cc in
    let k = times_from xs j q f in
    absurd (omega arith)
one_place (x ∷ xs) q h (suc i) zero e f =
    let one = one_itself x q cc in
    let k = times_from xs i q e in
    absurd (omega arith)
one_place (x ∷ xs) q h (suc i) (suc j) e f = ap suc (one_place xs q (omega arith) i j e f)

-- the object whose queue a status names has a monitor
found : (list : MonitorRec → List ℕ) (queue : Queue) (q : ℕ) →
    ((m : MonitorRec) → times_entering q (list m) ≡ times_queued queue m q) →
    (monitor t : Option MonitorRec) → monitor ≡ t → times_queued_if queue t q ≡ 1 → StandsIn list monitor q
found list queue q same monitor None is e = absurd (omega arith)
found list queue q same monitor (Some m) is e =
    let k = same m in
    record { of = m; is = is; stands = times_has (list m) q (omega arith) }

-- ---- a status names one queue at most

status_once : (o : ℕ) (s : ProcStatus) → times_blocked ForEntry o s + times_blocked Urgently o s + times_blocked ForCondition o s ≤ 1
status_once o Ready = omega arith
status_once o (Entry x) = let k = at_most_one (x == o) in omega arith
status_once o (Cond x) = let k = at_most_one (x == o) in omega arith
status_once o (Urgent x) = let k = at_most_one (x == o) in omega arith
status_once o Ended = omega arith
status_once o (Failed cause line) = omega arith

unblocked_none : (queue : Queue) (o : ℕ) (s : ProcStatus) → is_blocked s ≡ false → times_blocked queue o s ≡ 0
unblocked_none queue o Ready e = refl
unblocked_none queue o (Entry x) e = absurd cc
unblocked_none queue o (Cond x) e = absurd cc
unblocked_none queue o (Urgent x) e = absurd cc
unblocked_none queue o Ended e = refl
unblocked_none queue o (Failed cause line) e = refl

module _ {A : Type 0} where
  once_if : (o : ℕ) (t : Option (Proc A)) →
      times_blocked_if ForEntry o t + times_blocked_if Urgently o t + times_blocked_if ForCondition o t ≤ 1
  once_if o None = omega arith
  once_if o (Some proc) = status_once o proc.status

  -- ---- queues

  module _ (w : World A) (o : ℕ) (m : MonitorRec) (blocked : AreBlocked w) (at : monitor_of w.common o ≡ Some m) where
    queued_told : (queue : Queue) (q : ℕ) → times_queued queue m q ≤ shown w.processes queue o q
    queued_told queue q =
        let e : told w.common.objects queue o q ≡ times_queued queue m q = ap (λ (t : Option MonitorRec). times_queued_if queue t q) at in
        let h = fits_least queue (told w.common.objects queue o q) (shown w.processes queue o q) (all_fit w blocked queue o q) in
        omega arith

    waits_as : (from : Queue) (q : ℕ) → 1 ≤ times_queued from m q → WaitsAs w.processes q (waiting from o)
    waits_as from q h =
        let k = queued_told from q in
        let s = stands w.processes from o q (omega arith) in
        record {
          proc = s.proc;
          there = s.there;
          is = s.is;
          top = blocked.top q s.proc s.there (ap is_blocked s.is ∙ waiting_blocked from o);
        }

    at_most_once : (q : ℕ) → times_entering q (queued m) ≤ 1
    at_most_once q =
        let e = queued_times m q in
        let a = queued_told ForEntry q in
        let b = queued_told Urgently q in
        let c = queued_told ForCondition q in
        let s = once_if o (slice_get w.processes q) in
        omega arith

    nowhere : (p : ℕ) (proc : Proc A) → slice_get w.processes p ≡ Some proc → is_blocked proc.status ≡ false → WaitsNowhere m p
    nowhere p proc there free =
        let a = queued_told ForEntry p in
        let b = queued_told Urgently p in
        let c = queued_told ForCondition p in
        let x = none ForEntry in
        let y = none Urgently in
        let z = none ForCondition in
        omega arith
      where
        none : (queue : Queue) → shown w.processes queue o p ≡ 0
        none queue = ap (λ (t : Option (Proc A)). times_blocked_if queue o t) there ∙ unblocked_none queue o proc.status free

  pub queues_tell : EachQueueTells A
  queues_tell w o m blocked at = record {
    entry = λ q h. waits_as w o m blocked at ForEntry q (times_from m.entry h.at q h.is);
    urgent = λ q h.
        let e = held_times m.urgent q in
        let k = times_from (processes_of m.urgent) h.at q h.is in
        waits_as w o m blocked at Urgently q (omega arith);
    condition = λ q h.
        let e = condition_times m.conditions q in
        let k = times_from (in_conditions m.conditions) h.at q h.is in
        waits_as w o m blocked at ForCondition q (omega arith);
    once = λ i j q e f. one_place (queued m) q (at_most_once w o m blocked at q) i j e f;
  }

  pub unblocked_nowhere : UnblockedWaitNowhere A
  unblocked_nowhere w o p m proc blocked at there free = nowhere w o m blocked at p proc there free

  -- ---- statuses

  shown_one : (w : World A) (queue : Queue) (o q : ℕ) (status : ProcStatus) → HasStatus w.processes q status →
      times_blocked queue o status ≡ 1 →
      times_blocked_if queue o (slice_get w.processes q) ≡ 1
  shown_one w queue o q status h one =
      ap (λ (t : Option (Proc A)). times_blocked_if queue o t) h.there ∙ ap (times_blocked queue o) h.is ∙ one

  pub statuses_tell : EachStatusTells A
  statuses_tell w blocked = record {
    entry = λ o q h.
        found (λ m. m.entry) ForEntry q (λ m. refl) (monitor_of w.common o) (monitor_of w.common o) refl
        (blocked.entry o q ∙ shown_one w ForEntry o q (Entry o) h (one_itself o o refl));
    urgent = λ o q h.
        found (λ m. processes_of m.urgent) Urgently q (λ m. held_times m.urgent q) (monitor_of w.common o) (monitor_of w.common o) refl
        (blocked.urgent o q ∙ shown_one w Urgently o q (Urgent o) h (one_itself o o refl));
  }
