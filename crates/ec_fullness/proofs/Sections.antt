-- A section begins only behind a return, on the own object of the activation that leaves.
use Rattle.std.proofs.Common.{◌≡◌, ℕ, Bool, true, false, List, Option, Some, None, refl, subst}
use Rattle.ec_cluster.specs.Cluster.{CodeWorld}
use Rattle.ec_cluster.specs.declared.cluster.Cluster.{Cluster}
use Rattle.ec_cluster.specs.Frames.{HasImages}
use Rattle.ec_code.specs.Fine.{Fine}
use Rattle.ec_code.specs.Typing.{Declared}
use Rattle.ec_code.specs.declared.activation.CodeActivation.{CodeActivation}
use Rattle.ec_fullness.proofs.Asking.{its_outcome, its_own}
use Rattle.ec_fullness.proofs.Entries.{has_entries}
use Rattle.ec_monitors.specs.Monitors.{Granting, entered, left, signalled, waited}
use Rattle.ec_monitors.specs.declared.record.Entry.{Entry as Within}
use Rattle.ec_monitors.specs.declared.record.Entry.TheVariants.{Entered, Queued}
use Rattle.ec_monitors.specs.declared.record.Granted.{Granted}
use Rattle.ec_monitors.specs.declared.record.MonitorRec.{MonitorRec}
use Rattle.ec_code.specs.Sound.{FineSection}
use Rattle.ec_cluster.specs.Acting.{Asks}
use Rattle.ec_cluster.specs.SystemSteps.{CanStart, StartsBehind}
use Rattle.ec_cluster.specs.Systems.{Runs}
use Rattle.ec_cluster.specs.declared.system.System.{System}
use Rattle.ec_world.specs.Objects.{class_at}
use Rattle.ec_world.specs.Outcomes.{Done, acting, at_condition, by_holder, done, entering, entry_done, left_behind, made_object, monitor_of}
use Rattle.ec_world.specs.Outcomes.{return_done, section_on, signal_done, signal_effect, wait_done}
use Rattle.ec_world.specs.declared.class.ClassNo.{ClassNo}
use Rattle.ec_world.specs.declared.class.ClassRec.{ClassRec}
use Rattle.ec_world.specs.declared.common.Common.{Common}
use Rattle.ec_world.specs.declared.doing.Doing.{Doing}
use Rattle.ec_world.specs.declared.doing.Doing.TheVariants.{Passes, Prints, Defines, Stores, Makes, MakesVector, Invokes, Returns}
use Rattle.ec_world.specs.declared.doing.Doing.TheVariants.{Moves, Unfixes, Enters, Waits, Signals, Finishes, Breaks}
use Rattle.ec_world.specs.declared.doing.Section.{Section}
use Rattle.ec_world.specs.declared.object.ObjectRec.{ObjectRec}
use Rattle.ec_world.specs.declared.stop.Effect.{Effect}
use Rattle.ec_world.specs.declared.stop.Effect.TheVariants.{Blocks, Leaves}
use Rattle.ec_world.specs.declared.stop.Queue.TheVariants.{ForCondition}
use Rattle.ec_world.specs.declared.stop.Who.{Who}
use Rattle.ec_world.specs.declared.value.Value.{Value}

-- a section is on this object
abbrev pub IsOn : ℕ → Option Section → Type 0
IsOn own None = Unit {0}
IsOn own (Some section) = section.own ≡ own

-- so is the one that begins, if any, and it does so behind a return
abbrev pub StartsWell : ℕ → Done → Type 0
StartsWell own (c, o) = StartsBehind o.effect o.started × IsOn own o.started

module _ (c : Common) (who : Who) where
  section_is : (op : Option ℕ) → IsOn who.own (section_on who.own op)
  section_is None = tt
  section_is (Some op) = refl

  acting_starts : (effect : Option Granted → Effect) (started : Option Section) → ((g : Option Granted) → StartsBehind (effect g) started) →
      IsOn who.own started → (g : Granting) → StartsWell who.own (acting c who.own effect started g)
  acting_starts effect started behind own (m, granted) = (behind granted, own)

  made_starts : (class : ClassNo) (given : List Value) (k : Option ClassRec) → StartsWell who.own (made_object c who class given k)
  made_starts class given None = (refl, tt)
  made_starts class given (Some k) = (refl, tt)

  left_starts : (given : Option Value) (started : Option Section) → IsOn who.own started → (m : Option MonitorRec) →
      StartsWell who.own (left_behind c who given started m)
  left_starts given started own None = (tt, own)
  left_starts given started own (Some m) = acting_starts (λ granted. Leaves given) started (λ g. tt) own (by_holder who.process m (left m))

  return_starts : (given : Option Value) (leaves : Bool) (started : Option Section) → IsOn who.own started →
      StartsWell who.own (return_done c who given leaves started)
  return_starts given true started own = left_starts given started own (monitor_of c who.own)
  return_starts given false started own = left_starts given started own None

  entering_starts : (x : MonitorRec × Within) → StartsWell who.own (entering c who.own x)
  entering_starts (m, Entered) = (refl, tt)
  entering_starts (m, Queued) = (refl, tt)

  entry_starts : (m : Option MonitorRec) → StartsWell who.own (entry_done c who m)
  entry_starts None = (refl, tt)
  entry_starts (Some m) = entering_starts (entered m who.process)

  wait_starts : (condition : ℕ) (m : Option MonitorRec) → StartsWell who.own (wait_done c who condition m)
  wait_starts condition None = (refl, tt)
  wait_starts condition (Some m) =
      acting_starts (λ granted. Blocks ForCondition who.own) None (λ g. refl) tt
      (by_holder who.process m (at_condition m condition (waited m condition)))

  signal_behind : (g : Option Granted) → StartsBehind (signal_effect who.own g) None
  signal_behind None = refl
  signal_behind (Some q) = refl

  signal_starts : (condition : ℕ) (m : Option MonitorRec) → StartsWell who.own (signal_done c who condition m)
  signal_starts condition None = (refl, tt)
  signal_starts condition (Some m) =
      acting_starts (signal_effect who.own) None signal_behind tt
      (by_holder who.process m (at_condition m condition (signalled m condition)))

  pub done_starts : (doing : Doing) → StartsWell who.own (done c who doing)
  done_starts (Passes given) = (refl, tt)
  done_starts (Prints text) = (refl, tt)
  done_starts (Defines index v) = (refl, tt)
  done_starts (Stores oid i v) = (refl, tt)
  done_starts (Makes class given) = made_starts class given (class_at c.classes class)
  done_starts (MakesVector of n) = (refl, tt)
  done_starts (Invokes op own args) = (refl, tt)
  done_starts (Returns given leaves section) = return_starts given leaves (section_on who.own section) (section_is section)
  done_starts (Moves members to fixes) = (refl, tt)
  done_starts (Unfixes x) = (refl, tt)
  done_starts Enters = entry_starts (monitor_of c who.own)
  done_starts (Waits condition) = wait_starts condition (monitor_of c who.own)
  done_starts (Signals condition) = signal_starts condition (monitor_of c who.own)
  done_starts Finishes = (refl, tt)
  done_starts (Breaks why line) = (refl, tt)

pub can_start : (d : Declared) (c : Cluster) (objects : List ObjectRec) (own : ℕ) (started : Option Section) → Fine d c.parts →
    HasImages d c → FineSection d c.parts objects started → IsOn own started → CanStart c own started
can_start d c objects own None fine images f is = tt
can_start d c objects own (Some section) fine images f is =
    (is, has_entries d c fine images section.operation f.2.operation f.2.is)

pub section_begins : (d : Declared) (s : System) (w : CodeWorld) (below : List CodeActivation) (top : CodeActivation) (who : Who)
    (doing : Doing) → Runs d s w → Asks w below top who doing →
    CanStart s.cluster top.own (done w.common who doing).1.started
    × StartsBehind (done w.common who doing).1.effect (done w.common who doing).1.started
section_begins d s w below top who doing runs asks =
    let starts = done_starts w.common who doing in (
      can_start d s.cluster (done w.common who doing).0.objects top.own (done w.common who doing).1.started runs.steady.fine
          runs.steady.images (its_outcome d s w below top who doing runs asks).3
          (subst (λ own. IsOn own (done w.common who doing).1.started) (its_own d s w below top who doing runs asks) starts.1),
      starts.0,
    )
