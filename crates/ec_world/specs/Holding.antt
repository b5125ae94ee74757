-- An act on the monitor of an object, and what it answers: none where the object has no monitor.
use Rattle.std.specs.Prelude.{ℕ, List, Option, Some, None}
use Rattle.ec_monitors.specs.declared.record.MonitorRec.{MonitorRec}
use Rattle.ec_monitors.specs.declared.record.Entry.{Entry}
use Rattle.ec_monitors.specs.Monitors.{Granting, entered, left, waited, signalled, dropped}
use Rattle.ec_world.specs.declared.object.ObjectRec.{ObjectRec}
use Rattle.ec_world.specs.declared.object.HolderAct.{HolderAct}
use Rattle.ec_world.specs.declared.object.HolderAct.TheVariants.{Leave, Wait, Signal, DropAll}
use Rattle.ec_world.specs.Objects.{object_at, changed_object}
use Rattle.ec_world.specs.Outcomes.{monitor_if, by_holder, at_condition}

-- ---- acts

-- p enters, or waits to
abbrev pub entry_of : ℕ → MonitorRec → MonitorRec × Entry
entry_of p m = entered m p

-- what the holder does
abbrev pub act_of : HolderAct → MonitorRec → Granting
act_of Leave m = left m
act_of (Wait condition) m = at_condition m condition (waited m condition)
act_of (Signal condition) m = at_condition m condition (signalled m condition)
act_of DropAll m = dropped m

-- p does it, where it is the holder
abbrev pub act_by : ℕ → HolderAct → MonitorRec → Granting
act_by p act m = by_holder p m (act_of act m)

-- ---- on the monitor of an object

module _ {R : Type 0} (act : MonitorRec → MonitorRec × R) where
  abbrev pub on_if : ObjectRec → Option MonitorRec → ObjectRec × Option R
  on_if o None = (o, None)
  on_if o (Some m) = (record o { monitor = Some (act m).0 }, Some (act m).1)

  abbrev pub on_object : ObjectRec → ObjectRec × Option R
  on_object o = on_if o o.monitor

  abbrev pub at_if : List ObjectRec → ℕ → Option MonitorRec → List ObjectRec × Option R
  at_if objects oid None = (objects, None)
  at_if objects oid (Some m) = (changed_object objects oid (λ o. record o { monitor = Some (act m).0 }), Some (act m).1)

  -- on that of the object of a number
  abbrev pub at_number : List ObjectRec → ℕ → List ObjectRec × Option R
  at_number objects oid = at_if objects oid (monitor_if (object_at objects oid))
