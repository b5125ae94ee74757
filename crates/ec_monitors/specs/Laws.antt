-- What holds of the acts: what every act keeps, and that nobody is lost.
use Rattle.std.specs.Prelude.{◌≡◌, ℕ, ◌+◌, ◌<◌, ◌≤◌, ◌==◌, List, [], ◌∷◌, length, replicate, nat_lt, Option, Some, None, if◌then◌else◌}
use Rattle.ec_monitors.specs.declared.record.MonitorRec.{MonitorRec}
use Rattle.ec_monitors.specs.declared.record.Hold.{Hold}
use Rattle.ec_monitors.specs.Monitors.{made, is_held_by, entered, left, waited, signalled, dropped}
use Rattle.ec_monitors.specs.Standing.{one_if, times_held, times_in, WaitsNowhere}

-- nobody waits to go on in a monitor that is free
abbrev pub FreeIsEmpty : MonitorRec → Type 0
FreeIsEmpty m = m.holder ≡ None → (m.entry ≡ []) × (m.urgent ≡ [])

abbrev pub DeepIf : Option Hold → Type 0
DeepIf None = Unit {0}
DeepIf (Some h) = 1 ≤ h.depth

abbrev pub EachDeep : List Hold → Type 0
EachDeep [] = Unit {0}
EachDeep (h ∷ hs) = (1 ≤ h.depth) × EachDeep hs

abbrev pub AllDeep : List (List Hold) → Type 0
AllDeep [] = Unit {0}
AllDeep (q ∷ qs) = EachDeep q × AllDeep qs

-- each that holds or waits has entered at least once
abbrev pub HasDepths : MonitorRec → Type 0
HasDepths m = DeepIf m.holder × EachDeep m.urgent × AllDeep m.conditions

-- P holds of a new monitor, and of a monitor after each act where it held before. Who enters waits nowhere in it.
pub record KeptByEachAct (P : MonitorRec → Type 0) : Type 0 where
  pub of_new : (conditions : ℕ) → P (made (replicate conditions []))
  pub by_entering : (m : MonitorRec) (p : ℕ) → WaitsNowhere m p → P m → P (entered m p).0
  pub by_leaving : (m : MonitorRec) → P m → P (left m).0
  pub by_waiting : (m : MonitorRec) (c : ℕ) → c < length m.conditions → P m → P (waited m c).0
  pub by_signalling : (m : MonitorRec) (c : ℕ) → c < length m.conditions → P m → P (signalled m c).0
  pub by_dropping : (m : MonitorRec) → P m → P (dropped m).0

-- how often q comes in when p asks to enter: once where q is p and isn't within already
abbrev pub times_coming : MonitorRec → ℕ → ℕ → ℕ
times_coming m p q = if is_held_by m p then 0 else one_if (p == q)

abbrev pub going_by : ℕ → Option Hold → ℕ
going_by q None = 0
going_by q (Some h) = if nat_lt 1 h.depth then 0 else one_if (h.process == q)

-- how often q goes for good when the holder leaves: once where q holds the monitor, one deep
abbrev pub times_going : MonitorRec → ℕ → ℕ
times_going m q = going_by q m.holder

-- Those that stand in a monitor after an act are those that stood there before it, and who came in, but for who went for
-- good. Who waits for a condition, and who signals it, stays.
pub record NobodyIsLost : Type 0 where
  pub by_entering : (m : MonitorRec) (p q : ℕ) → times_in (entered m p).0 q ≡ times_in m q + times_coming m p q
  pub by_leaving : (m : MonitorRec) (q : ℕ) → times_in (left m).0 q + times_going m q ≡ times_in m q
  pub by_waiting : (m : MonitorRec) (c q : ℕ) → c < length m.conditions → times_in (waited m c).0 q ≡ times_in m q
  pub by_signalling : (m : MonitorRec) (c q : ℕ) → c < length m.conditions → times_in (signalled m c).0 q ≡ times_in m q
  pub by_dropping : (m : MonitorRec) (q : ℕ) → times_in (dropped m).0 q + times_held q m.holder ≡ times_in m q
