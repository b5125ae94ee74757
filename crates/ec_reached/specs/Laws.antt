-- What holds of reached worlds, over any meaning of activations.
use Rattle.std.specs.Prelude.{ℕ, List}
use Rattle.ec_monitors.specs.Laws.{FreeIsEmpty, HasDepths}
use Rattle.ec_monitors.specs.Standing.{StandsOnce}
use Rattle.ec_world.specs.declared.class.ClassRec.{ClassRec}
use Rattle.ec_world.specs.declared.common.Common.{Common}
use Rattle.ec_world.specs.declared.run.RunEntry.{RunEntry}
use Rattle.ec_world.specs.declared.value.ValueType.{ValueType}
use Rattle.ec_world.specs.declared.world.World.{World}
use Rattle.ec_world.specs.Follows.{IsKept}
use Rattle.ec_world.specs.Meaning.{ActivationMeaning}
use Rattle.ec_world.specs.Run.{after_entries, first_world}
use Rattle.ec_reached.specs.Depths.{MonitorsFit, OfEachMonitor}
use Rattle.ec_reached.specs.Meant.{StaysItself, StepsStay, StepsStop}
use Rattle.ec_reached.specs.Orderly.{AskedStand, HoldsCount, Orderly}
use Rattle.ec_reached.specs.Stacks.{BlockedRest, StacksFit}

-- what holds of each monitor
pub record MonitorsKeep {A : Type 0} (w : World A) : Type 0 where
  pub of_classes : MonitorsFit w.common
  pub free : OfEachMonitor FreeIsEmpty w.common
  pub once : OfEachMonitor StandsOnce w.common
  pub deep : OfEachMonitor HasDepths w.common

module _ {A : Type 0} (M : ActivationMeaning A) where
  -- this holds of each world that turns and moves reach from the first one of a program, where silent steps keep what is asked of them
  abbrev pub OfEachReached : (World A → Type 0) → Type 0
  OfEachReached Holds =
      (advance : Common → A → Common × A) → StaysItself M → StepsStay M advance →
      (n : ℕ) (classes : List ClassRec) (globals : List ValueType) (entries : List RunEntry) →
      Holds (after_entries M advance (first_world M n classes globals) entries)

  -- An activation that isn't on top is done at an invocation or a creation, and the one above it is of the operation and on the object
  -- that this called. The lowest runs the program, or a process section. An ended or failed process has none.
  abbrev pub EachStackIsCalls : Type 0
  EachStackIsCalls = OfEachReached (StacksFit M)

  -- The top of a blocked process is on the object that its status names, runs in its monitor, and is done: at its entry where it waits to
  -- enter, at a wait where it waits for a condition, at a signal where it has signalled.
  abbrev pub EachBlockedRests : Type 0
  EachBlockedRests = OfEachReached (BlockedRest M)

  -- An object has a monitor where its class is monitored, with the conditions of the class. Nobody waits to go on in one that nobody
  -- holds. Each process stands in it at most once, and has entered at least once where it holds it, or waits in it.
  abbrev pub EachMonitorFits : Type 0
  EachMonitorFits = OfEachReached MonitorsKeep

  -- The first world is orderly, and a world that is orderly is so after an action, after silent steps, and after a move by the operator.
  pub record EntriesKeepOrder (advance : Common → A → Common × A) (classes : List ClassRec) : Type 0 where
    pub at_first : (n : ℕ) (globals : List ValueType) → Orderly M classes (first_world M n classes globals)
    pub kept : IsKept M advance (Orderly M classes)

  -- They do where silent steps lead to no entry, and to an end only where no class has the operation for a call.
  abbrev pub OrderIsKept : Type 0
  OrderIsKept =
      (advance : Common → A → Common × A) (classes : List ClassRec) → StaysItself M → StepsStay M advance → StepsStop M advance classes →
      EntriesKeepOrder advance classes

  -- So each world that is reached is orderly.
  abbrev pub EachReachedIsOrderly : Type 0
  EachReachedIsOrderly =
      (advance : Common → A → Common × A) (classes : List ClassRec) → StaysItself M → StepsStay M advance → StepsStop M advance classes →
      (n : ℕ) (globals : List ValueType) (entries : List RunEntry) →
      Orderly M classes (after_entries M advance (first_world M n classes globals) entries)

  -- In an orderly world the depth of each hold is how many activations of its process have entered.
  abbrev pub EachHoldCounts : Type 0
  EachHoldCounts = (classes : List ClassRec) (w : World A) → Orderly M classes w → HoldsCount M w

  -- In an orderly world those stand in a monitor, as its holder, as signallers, for a condition or to enter, that have asked to enter it and
  -- haven't left it, and no others.
  abbrev pub EachAskedStands : Type 0
  EachAskedStands = (classes : List ClassRec) (w : World A) → Orderly M classes w → AskedStand M w
