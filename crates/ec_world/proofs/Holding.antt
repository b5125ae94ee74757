-- Acts on the monitor of one object of a world.
use Rattle.std.proofs.Common.{◌≡◌, ℕ, suc, ◌-◌, ◌<◌, List, Option, Some, None, refl, ap, ◌∙◌, arith}
use Rattle.std.specs.Prelude.{slice_get, slice_set}
use Rattle.ec_base.proofs.Lists.{set_there}
use Rattle.ec_monitors.specs.declared.record.MonitorRec.{MonitorRec}
use Rattle.ec_monitors.specs.declared.record.Granted.{Granted}
use Rattle.ec_monitors.specs.declared.record.Entry.{Entry}
use Rattle.ec_monitors.specs.Monitors.{Granting}
use Rattle.ec_world.specs.declared.value.Value.{Value}
use Rattle.ec_world.specs.declared.common.Common.{Common}
use Rattle.ec_world.specs.declared.doing.Outcome.{Outcome}
use Rattle.ec_world.specs.declared.doing.Section.{Section}
use Rattle.ec_world.specs.declared.object.ObjectRec.{ObjectRec}
use Rattle.ec_world.specs.declared.object.HolderAct.TheVariants.{Leave, Wait, Signal, DropAll}
use Rattle.ec_world.specs.declared.stop.Effect.{Effect}
use Rattle.ec_world.specs.declared.stop.Effect.TheVariants.{GoesOn, Leaves, Blocks}
use Rattle.ec_world.specs.declared.stop.Queue.TheVariants.{ForCondition}
use Rattle.ec_world.specs.declared.stop.Who.{Who}
use Rattle.ec_world.specs.Objects.{object_at, changed_if, changed_object}
use Rattle.ec_world.specs.Outcomes.{Done, only, monitor_if, monitor_of, entry_effect, entering, entry_done, acting, wait_done}
use Rattle.ec_world.specs.Outcomes.{signal_effect, signal_done, left_behind, dropped_if, dropped_at}
use Rattle.ec_world.specs.Holding.{entry_of, act_by, on_if, on_object, at_if, at_number}

-- ---- one object of a list

pub object_read : (objects : List ObjectRec) (oid : ℕ) (o : ObjectRec) → 0 < oid → slice_get objects (oid - 1) ≡ Some o →
    object_at objects oid ≡ Some o
object_read objects oid o h e = let n : oid ≡ suc (oid - 1) = omega arith in ap (object_at objects) n ∙ e

pub changed_there : (objects : List ObjectRec) (oid : ℕ) (o : ObjectRec) (change : ObjectRec → ObjectRec) →
    object_at objects oid ≡ Some o → changed_object objects oid change ≡ slice_set objects (oid - 1) (change o)
changed_there objects oid o change e = ap (changed_if objects oid change) e

module _ {R : Type 0} (act : MonitorRec → MonitorRec × R) (objects : List ObjectRec) (oid : ℕ) where
  part_there : (o o' : ObjectRec) (r : Option R) (m : Option MonitorRec) → object_at objects oid ≡ Some o →
      slice_get objects (oid - 1) ≡ Some o → on_if act o m ≡ (o', r) → at_if act objects oid m ≡ (slice_set objects (oid - 1) o', r)
  part_there o o' r None is at e =
      let a : o ≡ o' = ap (λ (t : ObjectRec × Option R). t.0) e in
      let b : None ≡ r = ap (λ (t : ObjectRec × Option R). t.1) e in
      let s : slice_set objects (oid - 1) o ≡ objects = set_there objects (oid - 1) o at in
      rw (← a, ← b, s) refl
  part_there o o' r (Some m) is at e =
      let a : record o { monitor = Some (act m).0 } ≡ o' = ap (λ (t : ObjectRec × Option R). t.0) e in
      let b : Some (act m).1 ≡ r = ap (λ (t : ObjectRec × Option R). t.1) e in
      rw (changed_there objects oid o (λ o. record o { monitor = Some (act m).0 }) is, ← a, ← b) refl

  -- an act on the object that is there is one on its number
  pub at_there : (o o' : ObjectRec) (r : Option R) → 0 < oid → slice_get objects (oid - 1) ≡ Some o → on_object act o ≡ (o', r) →
      at_number act objects oid ≡ (slice_set objects (oid - 1) o', r)
  at_there o o' r h at e =
      let is = object_read objects oid o h at in
      ap (λ (x : Option ObjectRec). at_if act objects oid (monitor_if x)) is ∙ part_there o o' r o.monitor is at e

-- ---- entries

abbrev pub entry_outcome : ℕ → Option Entry → Outcome
entry_outcome own None = only (GoesOn None)
entry_outcome own (Some within) = only (entry_effect own within)

entry_if : (c : Common) (who : Who) (objects : List ObjectRec) (r : Option Entry) (m : Option MonitorRec) →
    at_if (entry_of who.process) c.objects who.own m ≡ (objects, r) →
    entry_done c who m ≡ (record c { objects = objects }, entry_outcome who.own r)
entry_if c who objects r None e =
    let a : c.objects ≡ objects = ap (λ (t : List ObjectRec × Option Entry). t.0) e in
    let b : None ≡ r = ap (λ (t : List ObjectRec × Option Entry). t.1) e in
    rw (← a, ← b) refl
entry_if c who objects r (Some m) e = part (entry_of who.process m) e
  where
    part : (g : MonitorRec × Entry) →
        ◌≡◌ {A = List ObjectRec × Option Entry} (changed_object c.objects who.own (λ o. record o { monitor = Some g.0 }), Some g.1)
        (objects, r) → entering c who.own g ≡ (record c { objects = objects }, entry_outcome who.own r)
    part (n, within) k =
        let a : changed_object c.objects who.own (λ o. record o { monitor = Some n }) ≡ objects =
        ap (λ (t : List ObjectRec × Option Entry). t.0) k in
        let b : Some within ≡ r = ap (λ (t : List ObjectRec × Option Entry). t.1) k in
        rw (← a, ← b) refl

pub entry_by : (c : Common) (who : Who) (objects : List ObjectRec) (r : Option Entry) →
    at_number (entry_of who.process) c.objects who.own ≡ (objects, r) →
    entry_done c who (monitor_of c who.own) ≡ (record c { objects = objects }, entry_outcome who.own r)
entry_by c who objects r e = entry_if c who objects r (monitor_of c who.own) e

-- ---- acts of the holder

abbrev pub answered : Outcome → (Option Granted → Effect) → Option Section → Option (Option Granted) → Outcome
answered otherwise effect started None = otherwise
answered otherwise effect started (Some granted) = record { effect = effect granted; granted = granted; started = started }

module _ (c : Common) (own : ℕ) (otherwise : Outcome) (effect : Option Granted → Effect) (started : Option Section)
    (act : MonitorRec → Granting) (objects : List ObjectRec) (r : Option (Option Granted)) where
  acting_by : (g : Granting) →
      ◌≡◌ {A = List ObjectRec × Option (Option Granted)}
      (changed_object c.objects own (λ o. record o { monitor = Some g.0 }), Some g.1) (objects, r) →
      acting c own effect started g ≡ (record c { objects = objects }, answered otherwise effect started r)
  acting_by (n, granted) k =
      let a : changed_object c.objects own (λ o. record o { monitor = Some n }) ≡ objects =
      ap (λ (t : List ObjectRec × Option (Option Granted)). t.0) k in
      let b : Some granted ≡ r = ap (λ (t : List ObjectRec × Option (Option Granted)). t.1) k in
      rw (← a, ← b) refl

  -- what is done with the monitor, where there is one, is what the act on it makes
  acted_by : (whole : Option MonitorRec → Done) → whole None ≡ (c, otherwise) →
      ((m : MonitorRec) → whole (Some m) ≡ acting c own effect started (act m)) → (m : Option MonitorRec) →
      at_if act c.objects own m ≡ (objects, r) → whole m ≡ (record c { objects = objects }, answered otherwise effect started r)
  acted_by whole n s None e =
      let a : c.objects ≡ objects = ap (λ (t : List ObjectRec × Option (Option Granted)). t.0) e in
      let b : None ≡ r = ap (λ (t : List ObjectRec × Option (Option Granted)). t.1) e in
      n ∙ rw (← a, ← b) refl
  acted_by whole n s (Some m) e = s m ∙ acting_by (act m) e

module _ (c : Common) (who : Who) (objects : List ObjectRec) (r : Option (Option Granted)) where
  pub wait_by : (condition : ℕ) → at_number (act_by who.process (Wait condition)) c.objects who.own ≡ (objects, r) →
      wait_done c who condition
      (monitor_of c who.own) ≡
      (record c { objects = objects }, answered (only (GoesOn None)) (λ granted. Blocks ForCondition who.own) None r)
  wait_by condition e =
      acted_by c who.own (only (GoesOn None)) (λ granted. Blocks ForCondition who.own) None (act_by who.process (Wait condition))
      objects r (wait_done c who condition) refl (λ m. refl) (monitor_of c who.own) e

  pub signal_by : (condition : ℕ) → at_number (act_by who.process (Signal condition)) c.objects who.own ≡ (objects, r) →
      signal_done c who condition
      (monitor_of c who.own) ≡ (record c { objects = objects }, answered (only (GoesOn None)) (signal_effect who.own) None r)
  signal_by condition e =
      acted_by c who.own (only (GoesOn None)) (signal_effect who.own) None (act_by who.process (Signal condition)) objects r
      (signal_done c who condition) refl (λ m. refl) (monitor_of c who.own) e

  pub leave_by : (given : Option Value) (started : Option Section) →
      at_number (act_by who.process Leave) c.objects who.own ≡ (objects, r) →
      left_behind c who given started
      (monitor_of c who.own) ≡ (
        record c { objects = objects },
        answered (record { effect = Leaves given; granted = None; started = started })
            (λ granted. Leaves given) started r,
      )
  leave_by given started e =
      acted_by c who.own (record { effect = Leaves given; granted = None; started = started }) (λ granted. Leaves given) started
      (act_by who.process Leave) objects r (left_behind c who given started) refl (λ m. refl) (monitor_of c who.own) e

-- whom an act granted the monitor, where it granted it to one
abbrev pub granted_by : Option (Option Granted) → Option Granted
granted_by None = None
granted_by (Some granted) = granted

drop_if : (before objects : List ObjectRec) (p oid : ℕ) (r : Option (Option Granted)) (m : Option MonitorRec) →
    at_if (act_by p DropAll) before oid m ≡ (objects, r) → dropped_if before p oid m ≡ (objects, granted_by r)
drop_if before objects p oid r None e =
    let a : before ≡ objects = ap (λ (t : List ObjectRec × Option (Option Granted)). t.0) e in
    let b : None ≡ r = ap (λ (t : List ObjectRec × Option (Option Granted)). t.1) e in
    rw (← a, ← b) refl
drop_if before objects p oid r (Some m) e =
    let a : changed_object before oid (λ o. record o { monitor = Some (act_by p DropAll m).0 }) ≡ objects =
    ap (λ (t : List ObjectRec × Option (Option Granted)). t.0) e in
    let b : Some (act_by p DropAll m).1 ≡ r = ap (λ (t : List ObjectRec × Option (Option Granted)). t.1) e in
    rw (← a, ← b) refl

pub drop_by : (before objects : List ObjectRec) (p oid : ℕ) (r : Option (Option Granted)) →
    at_number (act_by p DropAll) before oid ≡ (objects, r) → dropped_at before p oid ≡ (objects, granted_by r)
drop_by before objects p oid r e = drop_if before objects p oid r (monitor_if (object_at before oid)) e
