-- Orderly worlds: all that holds of each world that is reached.
use Rattle.std.specs.Prelude.{◌≡◌, ℕ, true, List, Some, slice_get}
use Rattle.ec_base.specs.Stack.{top_of}
use Rattle.ec_monitors.specs.Laws.{FreeIsEmpty, HasDepths}
use Rattle.ec_monitors.specs.Standing.{StandsOnce}
use Rattle.ec_monitors.specs.declared.record.Hold.{Hold}
use Rattle.ec_monitors.specs.declared.record.MonitorRec.{MonitorRec}
use Rattle.ec_world.specs.declared.class.ClassRec.{ClassRec}
use Rattle.ec_world.specs.declared.process.Proc.{Proc}
use Rattle.ec_world.specs.declared.world.World.{World}
use Rattle.ec_world.specs.Group.{Has}
use Rattle.ec_world.specs.Meaning.{ActivationMeaning}
use Rattle.ec_world.specs.Outcomes.{monitor_of}
use Rattle.ec_reached.specs.Depths.{DepthsFit, EachStands, MonitorsFit, OfEachMonitor, QueuesFit, has_asked, times_asked_if}
use Rattle.ec_reached.specs.Meant.{IsNotCalled, is_ending}
use Rattle.ec_reached.specs.Stacks.{BlockedRest, StacksFit}

-- a hold of a monitor: its holder's, that of a signaller that waits, or of one that waits for a condition
pub data IsWithin (m : MonitorRec) (h : Hold) : Type 0 where
  Holding : m.holder ≡ Some h → IsWithin m h
  Signalling : Has m.urgent h → IsWithin m h
  Waiting : (queue : List Hold) → Has m.conditions queue → Has queue h → IsWithin m h

-- whose hold there is, or who waits to enter
pub data StandsIn (m : MonitorRec) (q : ℕ) : Type 0 where
  Within : (h : Hold) → IsWithin m h → h.process ≡ q → StandsIn m q
  Entering : Has m.entry q → StandsIn m q

module _ {A : Type 0} (M : ActivationMeaning A) where
  -- only an operation that no class has for a call ends its process
  abbrev pub EndsFit : List ClassRec → World A → Type 0
  EndsFit classes w =
      (p : ℕ) (proc : Proc A) (a : A) → slice_get w.processes p ≡ Some proc → top_of proc.activations ≡ Some a → is_ending M a ≡ true →
      IsNotCalled classes (M.operation a)

  -- A world of a program with these classes whose stacks are calls, whose monitors are those of their classes, as deep as they were
  -- entered, and whose blocked processes stand where their statuses and stops tell.
  pub record Orderly (classes : List ClassRec) (w : World A) : Type 0 where
    pub of_program : w.common.classes ≡ classes
    pub stacks : StacksFit M w
    pub rest : BlockedRest M w
    pub ends : EndsFit classes w
    pub monitors : MonitorsFit w.common
    pub free : OfEachMonitor FreeIsEmpty w.common
    pub once : OfEachMonitor StandsOnce w.common
    pub deep : OfEachMonitor HasDepths w.common
    pub depths : DepthsFit M w
    pub stand : EachStands w
    pub queues : QueuesFit M w

  -- The depth of a hold is how many activations of its process have entered.
  abbrev pub HoldsCount : World A → Type 0
  HoldsCount w =
      (o : ℕ) (m : MonitorRec) (h : Hold) → monitor_of w.common o ≡ Some m → IsWithin m h →
      times_asked_if M w.common o (slice_get w.processes h.process) ≡ h.depth

  -- a process has an activation that has asked to enter the monitor of object o
  pub record HasAsked (w : World A) (o q : ℕ) : Type 0 where
    pub proc : Proc A
    pub there : slice_get w.processes q ≡ Some proc
    pub of : A
    pub member : Has proc.activations of
    pub asked : has_asked M w.common o of ≡ true

  -- Whoever holds a monitor, or waits in it behind its entry, has an activation that has asked to enter it. Whoever has one stands in it.
  pub record AskedStand (w : World A) : Type 0 where
    pub within : (o : ℕ) (m : MonitorRec) (h : Hold) → monitor_of w.common o ≡ Some m → IsWithin m h → HasAsked w o h.process
    pub asked : (o q : ℕ) → HasAsked w o q → (m : MonitorRec) × ((monitor_of w.common o ≡ Some m) × StandsIn m q)
