-- Monitors of a world: when they are those of its classes, and that their depths are what has entered. (Hoare 1974.)
use Rattle.std.specs.Prelude.{◌≡◌, ℕ, ◌+◌, ◌==◌, ◌&&◌, not, Bool, true, false, List, [], ◌∷◌, Option, Some, None, length, slice_get}
use Rattle.ec_base.specs.Stack.{top_of}
use Rattle.ec_monitors.specs.Monitors.{depth_by}
use Rattle.ec_monitors.specs.Standing.{one_if, times_entering}
use Rattle.ec_monitors.specs.declared.record.Hold.{Hold}
use Rattle.ec_monitors.specs.declared.record.MonitorRec.{MonitorRec}
use Rattle.ec_world.specs.declared.class.ClassRec.{ClassRec}
use Rattle.ec_world.specs.declared.common.Common.{Common}
use Rattle.ec_world.specs.declared.process.Proc.{Proc}
use Rattle.ec_world.specs.declared.stop.Queue.{Queue}
use Rattle.ec_world.specs.declared.stop.Stop.TheVariants as stop
use Rattle.ec_world.specs.declared.world.World.{World}
use Rattle.ec_world.specs.Group.{Has}
use Rattle.ec_world.specs.Meaning.{ActivationMeaning}
use Rattle.ec_world.specs.Outcomes.{monitor_of}
use Rattle.ec_world.specs.Waiting.{times_queued_if, times_blocked_if}
use Rattle.ec_reached.specs.Meant.{is_coming}
use Rattle.ec_reached.specs.Stacks.{class_on, runs_within}

-- ---- which monitors there are

-- An object has a monitor where its class is monitored, with a queue for each condition of the class.
abbrev pub MonitorFits : Option ClassRec → Option MonitorRec → Type 0
MonitorFits None None = Unit {0}
MonitorFits None (Some m) = ⊥
MonitorFits (Some k) None = k.monitored ≡ false
MonitorFits (Some k) (Some m) = (k.monitored ≡ true) × (length m.conditions ≡ k.conditions)

abbrev pub MonitorsFit : Common → Type 0
MonitorsFit c = (o : ℕ) → MonitorFits (class_on c o) (monitor_of c o)

-- this holds of the monitor of each object
abbrev pub OfEachMonitor : (MonitorRec → Type 0) → Common → Type 0
OfEachMonitor P c = (o : ℕ) (m : MonitorRec) → monitor_of c o ≡ Some m → P m

-- ---- how deep a process is in a monitor

abbrev pub depth_among : ℕ → List Hold → ℕ
depth_among q [] = 0
depth_among q (h ∷ hs) = depth_by q (Some h) + depth_among q hs

abbrev pub depth_in_queues : ℕ → List (List Hold) → ℕ
depth_in_queues q [] = 0
depth_in_queues q (hs ∷ more) = depth_among q hs + depth_in_queues q more

-- as its holder, as a signaller that waits, or as one that waits for a condition
abbrev pub depth_in : MonitorRec → ℕ → ℕ
depth_in m q = depth_by q m.holder + (depth_among q m.urgent + depth_in_queues q m.conditions)

-- how deep it is, and one more where it waits to enter; nothing where there is no monitor
abbrev pub asked_of : Option MonitorRec → ℕ → ℕ
asked_of None q = 0
asked_of (Some m) q = depth_in m q + times_entering q m.entry

-- ---- how many activations have asked to enter

module _ {A : Type 0} (M : ActivationMeaning A) (c : Common) (o : ℕ) where
  -- it is on object o, runs in its monitor, and the action of its entry is done
  abbrev pub has_asked : A → Bool
  has_asked a = (M.own a == o) && (runs_within M c a && not (is_coming M a))

  abbrev pub times_asked : List A → ℕ
  times_asked [] = 0
  times_asked (a ∷ more) = one_if (has_asked a) + times_asked more

  -- a process that isn't there has none
  abbrev pub times_asked_if : Option (Proc A) → ℕ
  times_asked_if None = 0
  times_asked_if (Some proc) = times_asked proc.activations

-- As many activations of a process have asked to enter the monitor of an object as the process is deep in it, and one more where it
-- stands in its entry queue.
abbrev pub DepthsFit : {A : Type 0} → ActivationMeaning A → World A → Type 0
DepthsFit M w = (o q : ℕ) → times_asked_if M w.common o (slice_get w.processes q) ≡ asked_of (monitor_of w.common o) q

-- In each queue of an object's monitor each process stands once whose status tells it, and no other.
abbrev pub EachStands : {A : Type 0} → World A → Type 0
EachStands w =
    (queue : Queue) (o q : ℕ) → times_queued_if queue (monitor_of w.common o) q ≡ times_blocked_if queue o (slice_get w.processes q)

module _ {A : Type 0} (M : ActivationMeaning A) where
  -- a process is there whose activation on top rests at a wait for the condition of this number
  pub record WaitsFor (processes : List (Proc A)) (condition q : ℕ) : Type 0 where
    pub proc : Proc A
    pub there : slice_get processes q ≡ Some proc
    pub of : A
    pub is_top : top_of proc.activations ≡ Some of
    pub rests : M.stop of ≡ stop.Wait condition

  -- Whoever stands in the queue of a condition waits for this one.
  abbrev pub QueuesFit : World A → Type 0
  QueuesFit w =
      (o condition : ℕ) (m : MonitorRec) (queue : List Hold) (h : Hold) → monitor_of w.common o ≡ Some m →
      slice_get m.conditions condition ≡ Some queue → Has queue h → WaitsFor w.processes condition h.process
