-- Each act of its holder leaves a monitor as many queues for conditions.
use Rattle.std.proofs.Common.{◌≡◌, ℕ, Bool, true, false, List, [], ◌∷◌, ◌++◌, length, Option, Some, None, refl, ◌∙◌}
use Rattle.std.specs.Prelude.{nat_lt, slice_set}
use Rattle.ec_base.proofs.Lists.{length_set}
use Rattle.ec_base.specs.Stack.{top_of}
use Rattle.ec_monitors.specs.Monitors.{dropped, first_of_entry, leave_by, leave_held, left, released, resumed, signal_by, signalled}
use Rattle.ec_monitors.specs.Monitors.{top_of_urgent, wait_by, waited, waiting_for}
use Rattle.ec_monitors.specs.declared.record.Hold.{Hold}
use Rattle.ec_monitors.specs.declared.record.MonitorRec.{MonitorRec}

-- this monitor has as many queues for conditions as that one
abbrev pub AsMany : MonitorRec → MonitorRec → Type 0
AsMany new old = length new.conditions ≡ length old.conditions

-- ---- releasing

first_many : (m : MonitorRec) (es : List ℕ) → AsMany (first_of_entry m es).0 m
first_many m [] = refl
first_many m (x ∷ xs) = refl

top_many : (m : MonitorRec) (h : Option Hold) → AsMany (top_of_urgent m h).0 m
top_many m None = first_many m m.entry
top_many m (Some h) = refl

released_many : (m : MonitorRec) → AsMany (released m).0 m
released_many m = top_many m (top_of m.urgent)

pub dropped_many : (m : MonitorRec) → AsMany (dropped m).0 m
dropped_many m = released_many m

-- ---- leaving

less_many : (m : MonitorRec) (h : Hold) (deeper : Bool) → AsMany (leave_held m h deeper).0 m
less_many m h true = refl
less_many m h false = released_many m

leave_many : (m : MonitorRec) (h : Option Hold) → AsMany (leave_by m h).0 m
leave_many m None = refl
leave_many m (Some h) = less_many m h (nat_lt 1 h.depth)

pub left_many : (m : MonitorRec) → AsMany (left m).0 m
left_many m = leave_many m m.holder

-- ---- waiting and signalling

wait_many : (m : MonitorRec) (c : ℕ) (h : Option Hold) → AsMany (wait_by m c h).0 m
wait_many m c None = refl
wait_many m c (Some h) =
    let queue : List Hold = waiting_for m c ++ h ∷ [] in
    released_many (record m { holder = None; conditions = slice_set m.conditions c queue }) ∙ length_set m.conditions c queue

pub waited_many : (m : MonitorRec) (c : ℕ) → AsMany (waited m c).0 m
waited_many m c = wait_many m c m.holder

resumed_many : (m : MonitorRec) (c : ℕ) (h : Hold) (queue : List Hold) → AsMany (resumed m c h queue).0 m
resumed_many m c h [] = refl
resumed_many m c h (q ∷ qs) = length_set m.conditions c qs

signal_many : (m : MonitorRec) (c : ℕ) (h : Option Hold) → AsMany (signal_by m c h).0 m
signal_many m c None = refl
signal_many m c (Some h) = resumed_many m c h (waiting_for m c)

pub signalled_many : (m : MonitorRec) (c : ℕ) → AsMany (signalled m c).0 m
signalled_many m c = signal_many m c m.holder
