-- Who waits for the monitors of a world's objects: what their queues tell, and what the statuses of processes tell.
use Rattle.std.specs.Prelude.{◌≡◌, ◌≢◌, ◌≤◌, ◌==◌, ◌&&◌, ℕ, Bool, true, false, List, [], ◌∷◌, ◌++◌, map, Option, Some, None, IsSome}
use Rattle.std.specs.Prelude.{slice_get}
use Rattle.ec_base.specs.Stack.{top_of}
use Rattle.ec_monitors.specs.Standing.{one_if, times_entering, times_waiting, times_in_queues}
use Rattle.ec_monitors.specs.declared.record.Hold.{Hold}
use Rattle.ec_monitors.specs.declared.record.MonitorRec.{MonitorRec}
use Rattle.ec_world.specs.Group.{Has}
use Rattle.ec_world.specs.Outcomes.{monitor_of}
use Rattle.ec_world.specs.declared.common.Common.{Common}
use Rattle.ec_world.specs.declared.process.Proc.{Proc}
use Rattle.ec_world.specs.declared.process.ProcStatus.{ProcStatus}
use Rattle.ec_world.specs.declared.process.ProcStatus.TheVariants.{Ready, Entry, Cond, Urgent, Ended, Failed}
use Rattle.ec_world.specs.declared.stop.Queue.{Queue}
use Rattle.ec_world.specs.declared.stop.Queue.TheVariants.{ForEntry, ForCondition, Urgently}
use Rattle.ec_world.specs.declared.world.World.{World}

-- ---- what monitors tell

-- how often process q stands in a monitor's entry queue, in the queues of its conditions, or on its urgent stack
abbrev pub times_queued : Queue → MonitorRec → ℕ → ℕ
times_queued ForEntry m q = times_entering q m.entry
times_queued ForCondition m q = times_in_queues q m.conditions
times_queued Urgently m q = times_waiting q m.urgent

-- nobody waits where there is no monitor
abbrev pub times_queued_if : Queue → Option MonitorRec → ℕ → ℕ
times_queued_if queue None q = 0
times_queued_if queue (Some m) q = times_queued queue m q

-- ---- what statuses tell

abbrev pub is_queue : Queue → Queue → Bool
is_queue ForEntry ForEntry = true
is_queue ForEntry ForCondition = false
is_queue ForEntry Urgently = false
is_queue ForCondition ForEntry = false
is_queue ForCondition ForCondition = true
is_queue ForCondition Urgently = false
is_queue Urgently ForEntry = false
is_queue Urgently ForCondition = false
is_queue Urgently Urgently = true

-- once where a process of this status waits so for the monitor of object o, and else never
abbrev pub times_blocked : Queue → ℕ → ProcStatus → ℕ
times_blocked queue o Ready = 0
times_blocked queue o (Entry own) = one_if (is_queue ForEntry queue && own == o)
times_blocked queue o (Cond own) = one_if (is_queue ForCondition queue && own == o)
times_blocked queue o (Urgent own) = one_if (is_queue Urgently queue && own == o)
times_blocked queue o Ended = 0
times_blocked queue o (Failed cause line) = 0

-- a process that isn't there waits for nothing
abbrev pub times_blocked_if : {A : Type 0} → Queue → ℕ → Option (Proc A) → ℕ
times_blocked_if queue o None = 0
times_blocked_if queue o (Some proc) = times_blocked queue o proc.status

abbrev pub is_blocked : ProcStatus → Bool
is_blocked Ready = false
is_blocked (Entry o) = true
is_blocked (Cond o) = true
is_blocked (Urgent o) = true
is_blocked Ended = false
is_blocked (Failed cause line) = false

-- ---- that they tell the same

-- In the entry queue of an object's monitor, and on its urgent stack, each process stands once whose status says so, and no other
-- one. In the queues of its conditions stands none whose status doesn't say so, and none twice. (A process that waits for a
-- condition of a monitor that it doesn't hold is blocked, and stands nowhere.) Each that is blocked has an activation on top.
pub record AreBlocked {A : Type 0} (w : World A) : Type 0 where
  pub entry : (o q : ℕ) → times_queued_if ForEntry (monitor_of w.common o) q ≡ times_blocked_if ForEntry o (slice_get w.processes q)
  pub urgent : (o q : ℕ) → times_queued_if Urgently (monitor_of w.common o) q ≡ times_blocked_if Urgently o (slice_get w.processes q)
  pub condition :
      (o q : ℕ) → times_queued_if ForCondition (monitor_of w.common o) q ≤ times_blocked_if ForCondition o (slice_get w.processes q)
  pub top : (q : ℕ) (proc : Proc A) → slice_get w.processes q ≡ Some proc → is_blocked proc.status ≡ true → IsSome (top_of proc.activations)

-- silent steps leave monitors alone
abbrev pub KeepsMonitors : {A : Type 0} → (Common → A → Common × A) → Type 0
KeepsMonitors {A = A} advance = (c : Common) (a : A) (o : ℕ) → monitor_of (advance c a).0 o ≡ monitor_of c o

-- ---- the same, by the members of queues

abbrev pub processes_of : List Hold → List ℕ
processes_of holds = map (λ h. h.process) holds

abbrev pub in_conditions : List (List Hold) → List ℕ
in_conditions [] = []
in_conditions (holds ∷ more) = processes_of holds ++ in_conditions more

-- the processes that wait in a monitor: to enter it, as signallers, or for a condition
abbrev pub queued : MonitorRec → List ℕ
queued m = m.entry ++ (processes_of m.urgent ++ in_conditions m.conditions)

-- process q is there with this status
pub record HasStatus {A : Type 0} (processes : List (Proc A)) (q : ℕ) (status : ProcStatus) : Type 0 where
  pub proc : Proc A
  pub there : slice_get processes q ≡ Some proc
  pub is : proc.status ≡ status

-- and with an activation on top
pub record WaitsAs {A : Type 0} (processes : List (Proc A)) (q : ℕ) (status : ProcStatus) : Type 0 where
  pub proc : Proc A
  pub there : slice_get processes q ≡ Some proc
  pub is : proc.status ≡ status
  pub top : IsSome (top_of proc.activations)

-- the processes that wait in the monitor of an object wait as their statuses tell, and each stands in one place
pub record QueuesTell {A : Type 0} (w : World A) (o : ℕ) (m : MonitorRec) : Type 0 where
  pub entry : (q : ℕ) → Has m.entry q → WaitsAs w.processes q (Entry o)
  pub urgent : (q : ℕ) → Has (processes_of m.urgent) q → WaitsAs w.processes q (Urgent o)
  pub condition : (q : ℕ) → Has (in_conditions m.conditions) q → WaitsAs w.processes q (Cond o)
  pub once : (i j q : ℕ) → slice_get (queued m) i ≡ Some q → slice_get (queued m) j ≡ Some q → i ≡ j

-- the object that a process waits for has a monitor, in which it stands
pub record StandsIn (list : MonitorRec → List ℕ) (monitor : Option MonitorRec) (q : ℕ) : Type 0 where
  pub of : MonitorRec
  pub is : monitor ≡ Some of
  pub stands : Has (list of) q

-- nobody is lost who waits to enter a monitor, or to go on in it as a signaller
pub record StatusesTell {A : Type 0} (w : World A) : Type 0 where
  pub entry : (o q : ℕ) → HasStatus w.processes q (Entry o) → StandsIn (λ m. m.entry) (monitor_of w.common o) q
  pub urgent : (o q : ℕ) → HasStatus w.processes q (Urgent o) → StandsIn (λ m. processes_of m.urgent) (monitor_of w.common o) q

-- process q is there and blocked, with an activation on top, and isn't p
pub record WaitsBeside {A : Type 0} (w : World A) (p q : ℕ) : Type 0 where
  pub proc : Proc A
  pub there : slice_get w.processes q ≡ Some proc
  pub blocked : is_blocked proc.status ≡ true
  pub top : IsSome (top_of proc.activations)
  pub other : q ≢ p
