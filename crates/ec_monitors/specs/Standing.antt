-- How often a process stands in a monitor: as its holder, in its entry queue, on its urgent stack and in its conditions'
-- queues.
use Rattle.std.specs.Prelude.{◌≡◌, ℕ, ◌+◌, ◌≤◌, ◌==◌, Bool, true, false, List, [], ◌∷◌, Option, Some, None}
use Rattle.ec_monitors.specs.declared.record.MonitorRec.{MonitorRec}
use Rattle.ec_monitors.specs.declared.record.Hold.{Hold}

abbrev pub one_if : Bool → ℕ
one_if true = 1
one_if false = 0

abbrev pub times_held : ℕ → Option Hold → ℕ
times_held p None = 0
times_held p (Some h) = one_if (h.process == p)

abbrev pub times_entering : ℕ → List ℕ → ℕ
times_entering p [] = 0
times_entering p (q ∷ qs) = one_if (q == p) + times_entering p qs

abbrev pub times_waiting : ℕ → List Hold → ℕ
times_waiting p [] = 0
times_waiting p (h ∷ hs) = one_if (h.process == p) + times_waiting p hs

abbrev pub times_in_queues : ℕ → List (List Hold) → ℕ
times_in_queues p [] = 0
times_in_queues p (q ∷ qs) = times_waiting p q + times_in_queues p qs

-- how often p waits, for entry, as a signaller, or for a condition
abbrev pub times_behind : MonitorRec → ℕ → ℕ
times_behind m p = times_entering p m.entry + times_waiting p m.urgent + times_in_queues p m.conditions

-- how often p stands in the monitor
abbrev pub times_in : MonitorRec → ℕ → ℕ
times_in m p = times_held p m.holder + times_behind m p

-- p waits nowhere
abbrev pub WaitsNowhere : MonitorRec → ℕ → Type 0
WaitsNowhere m p = times_behind m p ≡ 0

-- each process stands at most once in the monitor
abbrev pub StandsOnce : MonitorRec → Type 0
StandsOnce m = (p : ℕ) → times_in m p ≤ 1
