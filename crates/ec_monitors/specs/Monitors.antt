-- The acts on a monitor (Hoare 1974, "Monitors: an operating system structuring concept"). Each gives the monitor after
-- it. Of this project's own: the holder may enter again, which counts its depth, and the signallers that wait stand on a
-- stack, the last of them on top.
use Rattle.std.specs.Prelude.{ℕ, ◌+◌, ◌-◌, ◌==◌, Bool, true, false, if◌then◌else◌, List, [], ◌∷◌, ◌++◌, Option, Some, None}
use Rattle.std.specs.Prelude.{slice_get, slice_set, nat_lt}
use Rattle.ec_base.specs.Stack.{top_of, below_of}
use Rattle.ec_monitors.specs.declared.record.MonitorRec.{MonitorRec}
use Rattle.ec_monitors.specs.declared.record.Hold.{Hold}
use Rattle.ec_monitors.specs.declared.record.Granted.{Granted}
use Rattle.ec_monitors.specs.declared.record.Entry.{Entry}
use Rattle.ec_monitors.specs.declared.record.Entry.TheVariants.{Entered, Queued}

-- a monitor after an act, and the process that was granted it
abbrev pub Granting : Type 0
Granting = MonitorRec × Option Granted

-- a new monitor is free, and nobody waits for any of its conditions
abbrev pub made : List (List Hold) → MonitorRec
made queues = record { holder = None; entry = []; urgent = []; conditions = queues }

-- holding

abbrev pub is_hold_of : ℕ → Option Hold → Bool
is_hold_of p None = false
is_hold_of p (Some h) = h.process == p

abbrev pub is_held_by : MonitorRec → ℕ → Bool
is_held_by m p = is_hold_of p m.holder

abbrev pub depth_by : ℕ → Option Hold → ℕ
depth_by p None = 0
depth_by p (Some h) = if h.process == p then h.depth else 0

-- how often p has entered: 0 where it doesn't hold the monitor
abbrev pub depth_of : MonitorRec → ℕ → ℕ
depth_of m p = depth_by p m.holder

-- releasing

abbrev pub first_of_entry : MonitorRec → List ℕ → Granting
first_of_entry m [] = (record m { holder = None; entry = [] }, None)
first_of_entry m (p ∷ ps) = (record m { holder = Some (record { process = p; depth = 1 }); entry = ps }, Some (record { process = p }))

abbrev pub top_of_urgent : MonitorRec → Option Hold → Granting
top_of_urgent m None = first_of_entry m m.entry
top_of_urgent m (Some h) = (record m { holder = Some h; urgent = below_of m.urgent }, Some (record { process = h.process }))

-- The holder lets go. A signaller that waits goes before all that want to enter (Hoare 1974, section 2): the last of
-- them holds again, at its depth; else the first of the entry queue enters; else the monitor is free.
abbrev pub released : MonitorRec → Granting
released m = top_of_urgent m (top_of m.urgent)

-- entering

abbrev pub enter_held : MonitorRec → ℕ → Hold → Bool → MonitorRec × Entry
enter_held m p h true = (record m { holder = Some (record { process = p; depth = h.depth + 1 }) }, Entered)
enter_held m p h false = (record m { entry = m.entry ++ p ∷ [] }, Queued)

abbrev pub enter_by : MonitorRec → ℕ → Option Hold → MonitorRec × Entry
enter_by m p None = (record m { holder = Some (record { process = p; depth = 1 }) }, Entered)
enter_by m p (Some h) = enter_held m p h (h.process == p)

-- p calls an operation of the monitor: it goes in where the monitor is free, one deeper where it is within already, and
-- waits behind all that came before it otherwise
abbrev pub entered : MonitorRec → ℕ → MonitorRec × Entry
entered m p = enter_by m p m.holder

-- leaving

abbrev pub leave_held : MonitorRec → Hold → Bool → Granting
leave_held m h true = (record m { holder = Some (record { process = h.process; depth = h.depth - 1 }) }, None)
leave_held m h false = released m

abbrev pub leave_by : MonitorRec → Option Hold → Granting
leave_by m None = (m, None)
leave_by m (Some h) = leave_held m h (nat_lt 1 h.depth)

-- the holder returns from an operation: it holds one less deep, and releases the monitor where that was its first
abbrev pub left : MonitorRec → Granting
left m = leave_by m m.holder

-- the holder is gone, however deep it was
abbrev pub dropped : MonitorRec → Granting
dropped m = released m

-- waiting and signalling

abbrev pub queue_at : Option (List Hold) → List Hold
queue_at None = []
queue_at (Some q) = q

-- who waits for condition c, the first in front
abbrev pub waiting_for : MonitorRec → ℕ → List Hold
waiting_for m c = queue_at (slice_get m.conditions c)

abbrev pub wait_by : MonitorRec → ℕ → Option Hold → Granting
wait_by m c None = (m, None)
wait_by m c (Some h) = released (record m { holder = None; conditions = slice_set m.conditions c (waiting_for m c ++ h ∷ []) })

-- c.wait: the holder goes last into the queue of c, with its depth, and releases the monitor
abbrev pub waited : MonitorRec → ℕ → Granting
waited m c = wait_by m c m.holder

abbrev pub resumed : MonitorRec → ℕ → Hold → List Hold → Granting
resumed m c h [] = (m, None)
resumed m c h (q ∷ qs) = (
  record m { holder = Some q; urgent = m.urgent ++ h ∷ []; conditions = slice_set m.conditions c qs },
  Some
      (record { process = q.process }),
)

abbrev pub signal_by : MonitorRec → ℕ → Option Hold → Granting
signal_by m c None = (m, None)
signal_by m c (Some h) = resumed m c h (waiting_for m c)

-- c.signal: where nobody waits for c nothing happens; else the longest waiting process goes on at once, at its depth, and
-- the signaller waits until the monitor is released
abbrev pub signalled : MonitorRec → ℕ → Granting
signalled m c = signal_by m c m.holder
