-- The action table, second half: what is done to a world beside its processes, and what this does to the activations. One case a
-- doing. (Jul, Levy, Hutchinson, Black 1988; for monitors Hoare 1974.)
use Rattle.std.specs.Prelude.{ℕ, suc, Bool, true, false, if◌then◌else◌, List, [], ◌∷◌, ◌++◌, length, nat_lt, replicate, Option}
use Rattle.std.specs.Prelude.{Some, None, slice_set}
use Rattle.ec_monitors.specs.declared.record.MonitorRec.{MonitorRec}
use Rattle.ec_monitors.specs.declared.record.Granted.{Granted}
use Rattle.ec_monitors.specs.declared.record.Entry.{Entry as Within}
use Rattle.ec_monitors.specs.declared.record.Entry.TheVariants.{Entered, Queued}
use Rattle.ec_monitors.specs.Monitors.{Granting, made, is_held_by, entered, left, waited, signalled, dropped}
use Rattle.ec_world.specs.declared.value.Value.{Value}
use Rattle.ec_world.specs.declared.value.Value.TheVariants.{Ref}
use Rattle.ec_world.specs.declared.class.ClassNo.{ClassNo}
use Rattle.ec_world.specs.declared.class.ClassNo.TheVariants.{Vector}
use Rattle.ec_world.specs.declared.class.ClassRec.{ClassRec}
use Rattle.ec_world.specs.declared.class.VectorType.{VectorType}
use Rattle.ec_world.specs.declared.common.Common.{Common}
use Rattle.ec_world.specs.declared.doing.Doing.{Doing}
use Rattle.ec_world.specs.declared.doing.Doing.TheVariants.{Passes, Prints, Defines, Stores, Makes, MakesVector, Invokes, Returns}
use Rattle.ec_world.specs.declared.doing.Doing.TheVariants.{Moves, Unfixes, Enters, Waits, Signals, Finishes, Breaks}
use Rattle.ec_world.specs.declared.stop.Effect.{Effect}
use Rattle.ec_world.specs.declared.stop.Effect.TheVariants.{GoesOn, Calls, Leaves, Blocks, Ends, Fails}
use Rattle.ec_world.specs.declared.doing.Outcome.{Outcome}
use Rattle.ec_world.specs.declared.stop.Queue.TheVariants.{ForEntry, ForCondition, Urgently}
use Rattle.ec_world.specs.declared.doing.Section.{Section}
use Rattle.ec_world.specs.declared.event.Event.TheVariants.{Created, Moved}
use Rattle.ec_world.specs.declared.object.ObjectRec.{ObjectRec}
use Rattle.ec_world.specs.declared.stop.Stop.{Stop}
use Rattle.ec_world.specs.declared.stop.Who.{Who}
use Rattle.ec_world.specs.Doings.{Asked, doing_of}
use Rattle.ec_world.specs.Objects.{object_at, changed_object, class_at, element_kind}
use Rattle.ec_world.specs.Sights.{sight_of}
use Rattle.ec_world.specs.Values.{new_fields, default_of}

-- what the world then has beside its processes, and what becomes of these
abbrev pub Done : Type 0
Done = Common × Outcome

-- no process is granted a monitor, and none starts
abbrev pub only : Effect → Outcome
only e = record { effect = e; granted = None; started = None }

abbrev pub goes_on : Common → Done
goes_on c = (c, only (GoesOn None))

-- ---- objects

-- the monitor of a new object of a class
abbrev pub monitor_for : ClassRec → Option MonitorRec
monitor_for k = if k.monitored then Some (made (replicate k.conditions [])) else None

abbrev pub with_object : Common → Who → ObjectRec → Common
with_object c who o = record c { objects = c.objects ++ o ∷ []; events = c.events ++ Created (suc (length c.objects)) who.own ∷ [] }

-- the next number, the given fields and the defaults of the others; an activation of operation 0 on it
abbrev pub made_object : Common → Who → ClassNo → List Value → Option ClassRec → Done
made_object c who class given None = goes_on c
made_object c who class given (Some k) = (
  with_object c who (record { class = class; fields = new_fields given k.fields; fixed = false; monitor = monitor_for k }),
  only (Calls k.initial (suc (length c.objects)) []),
)

-- the next number, and as many defaults
abbrev pub made_vector : Common → Who → VectorType → ℕ → Done
made_vector c who of n = (
  with_object c who (record { class = Vector of; fields = replicate n (default_of (element_kind of)); fixed = false; monitor = None }),
  only (GoesOn (Some (Ref (suc (length c.objects))))),
)

abbrev pub with_element : ℕ → Value → ObjectRec → ObjectRec
with_element i v o = record o { fields = slice_set o.fields i v }

abbrev pub stored_in : Common → ℕ → ℕ → Value → Common
stored_in c oid i v = record c { objects = changed_object c.objects oid (with_element i v) }

abbrev pub flagged : Common → ℕ → Bool → Common
flagged c x flag = record c { objects = changed_object c.objects x (λ o. record o { fixed = flag }) }

-- ---- moves

abbrev pub fixed_then : Common → Option ℕ → Common
fixed_then c None = c
fixed_then c (Some x) = flagged c x true

-- these go where an object is, and one of them is fixed from then on, if any
abbrev pub gone : Common → List ℕ → ℕ → Option ℕ → Common
gone c members to fixes = fixed_then (record c { events = c.events ++ Moved members to ∷ [] }) fixes

-- ---- monitors

abbrev pub monitor_if : Option ObjectRec → Option MonitorRec
monitor_if None = None
monitor_if (Some o) = o.monitor

abbrev pub monitor_of : Common → ℕ → Option MonitorRec
monitor_of c oid = monitor_if (object_at c.objects oid)

abbrev pub with_monitor : Common → ℕ → MonitorRec → Common
with_monitor c oid m = record c { objects = changed_object c.objects oid (λ o. record o { monitor = Some m }) }

-- who asks to enter goes on inside, or waits
abbrev pub entry_effect : ℕ → Within → Effect
entry_effect own Entered = GoesOn None
entry_effect own Queued = Blocks ForEntry own

abbrev pub entering : Common → ℕ → MonitorRec × Within → Done
entering c own (m, within) = (with_monitor c own m, only (entry_effect own within))

abbrev pub entry_done : Common → Who → Option MonitorRec → Done
entry_done c who None = goes_on c
entry_done c who (Some m) = entering c who.own (entered m who.process)

-- an act of the holder; another process does nothing
abbrev pub by_holder : ℕ → MonitorRec → Granting → Granting
by_holder p m act = if is_held_by m p then act else (m, None)

-- a condition that the monitor doesn't have is nobody's
abbrev pub at_condition : MonitorRec → ℕ → Granting → Granting
at_condition m condition act = if nat_lt condition (length m.conditions) then act else (m, None)

-- an act on the own monitor that goes on with this effect, which may depend on whether somebody was granted
abbrev pub acting : Common → ℕ → (Option Granted → Effect) → Option Section → Granting → Done
acting c own effect started (m, granted) = (with_monitor c own m, record { effect = effect granted; granted = granted; started = started })

-- c.wait: it always blocks
abbrev pub wait_done : Common → Who → ℕ → Option MonitorRec → Done
wait_done c who condition None = goes_on c
wait_done c who condition (Some m) =
    acting c who.own (λ granted. Blocks ForCondition who.own) None (by_holder who.process m (at_condition m condition (waited m condition)))

-- c.signal: it blocks where somebody was granted the monitor
abbrev pub signal_effect : ℕ → Option Granted → Effect
signal_effect own None = GoesOn None
signal_effect own (Some q) = Blocks Urgently own

abbrev pub signal_done : Common → Who → ℕ → Option MonitorRec → Done
signal_done c who condition None = goes_on c
signal_done c who condition (Some m) =
    acting c who.own (signal_effect who.own) None (by_holder who.process m (at_condition m condition (signalled m condition)))

-- ---- returns

abbrev pub section_on : ℕ → Option ℕ → Option Section
section_on own None = None
section_on own (Some op) = Some (record { operation = op; own = own })

-- The activation leaves the monitor of its object where it had entered it.
abbrev pub left_behind : Common → Who → Option Value → Option Section → Option MonitorRec → Done
left_behind c who given started None = (c, record { effect = Leaves given; granted = None; started = started })
left_behind c who given started (Some m) = acting c who.own (λ granted. Leaves given) started (by_holder who.process m (left m))

abbrev pub return_done : Common → Who → Option Value → Bool → Option Section → Done
return_done c who given true started = left_behind c who given started (monitor_of c who.own)
return_done c who given false started = left_behind c who given started None

-- ---- the table

abbrev pub done : Common → Who → Doing → Done
done c who (Passes given) = (c, only (GoesOn given))
done c who (Prints s) = goes_on (record c { output = c.output ++ s })
done c who (Defines index v) = goes_on (record c { globals = slice_set c.globals index v })
done c who (Stores oid i v) = goes_on (stored_in c oid i v)
done c who (Makes class given) = made_object c who class given (class_at c.classes class)
done c who (MakesVector of n) = made_vector c who of n
done c who (Invokes op own args) = (c, only (Calls op own args))
done c who (Returns given leaves section) = return_done c who given leaves (section_on who.own section)
done c who (Moves members to fixes) = goes_on (gone c members to fixes)
done c who (Unfixes x) = goes_on (flagged c x false)
done c who Enters = entry_done c who (monitor_of c who.own)
done c who (Waits condition) = wait_done c who condition (monitor_of c who.own)
done c who (Signals condition) = signal_done c who condition (monitor_of c who.own)
done c who Finishes = (c, only Ends)
done c who (Breaks why line) = (c, only (Fails why line))

-- ---- both steps

-- what an action comes to for a world; none where the table has no case
abbrev pub Acted : Type 0
Acted = Option Done

abbrev pub acted_if : Common → Who → Asked → Acted
acted_if c who None = None
acted_if c who (Some doing) = Some (done c who doing)

abbrev pub outcome_of : Common → Who → Stop → List Value → Acted
outcome_of c who s vs = acted_if c who (doing_of (sight_of c) who s vs)

-- ---- what a failed process holds

abbrev pub dropped_if : List ObjectRec → ℕ → ℕ → Option MonitorRec → List ObjectRec × Option Granted
dropped_if objects p oid None = (objects, None)
dropped_if objects p oid (Some m) =
    let g : Granting = by_holder p m (dropped m) in
    (changed_object objects oid (λ o. record o { monitor = Some g.0 }), g.1)

-- the monitor of an object, where p holds it, is given up whole
abbrev pub dropped_at : List ObjectRec → ℕ → ℕ → List ObjectRec × Option Granted
dropped_at objects p oid = dropped_if objects p oid (monitor_if (object_at objects oid))

abbrev pub all_granted : Option Granted → List ℕ → List ℕ
all_granted None more = more
all_granted (Some q) more = q.process ∷ more

-- the monitors of these objects that p holds, one after the other, and whom this grants one
abbrev pub dropped_each : ℕ → List ℕ → List ObjectRec → List ObjectRec × List ℕ
dropped_each p [] objects = (objects, [])
dropped_each p (oid ∷ oids) objects =
    let first : List ObjectRec × Option Granted = dropped_at objects p oid in
    let others : List ObjectRec × List ℕ = dropped_each p oids first.0 in
    (others.0, all_granted first.1 others.1)
