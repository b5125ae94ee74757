-- A run: entries with their worlds, and its end, over any meaning of activations.
use Rattle.std.specs.Prelude.{◌≡◌, ℕ, zero, suc, ◌<◌, Bool, true, false, ◌&&◌, not, List, [], ◌∷◌, ◌++◌, map, replicate, length}
use Rattle.std.specs.Prelude.{Option, Some, None, nat_le, if◌then◌else◌}
use Rattle.ec_world.specs.declared.value.ValueType.{ValueType}
use Rattle.ec_world.specs.declared.class.ClassNo.TheVariants.{Node, Program}
use Rattle.ec_world.specs.declared.class.ClassRec.{ClassRec}
use Rattle.ec_world.specs.declared.object.ObjectRec.{ObjectRec}
use Rattle.ec_world.specs.declared.process.ProcStatus.{ProcStatus}
use Rattle.ec_world.specs.declared.process.ProcStatus.TheVariants.{Ready, Entry as AtEntry, Cond, Urgent, Ended, Failed}
use Rattle.ec_world.specs.declared.run.Entry.{Entry}
use Rattle.ec_world.specs.declared.run.Entry.TheVariants.{Turn as Turns, Move}
use Rattle.ec_world.specs.declared.run.RunEntry.{RunEntry}
use Rattle.ec_world.specs.declared.run.RunEntry.TheVariants.{TurnOf, MoveOf}
use Rattle.ec_world.specs.declared.run.RunEnd.{RunEnd}
use Rattle.ec_world.specs.declared.run.RunEnd.TheVariants.{Finished, Stuck, Spent}
use Rattle.ec_world.specs.declared.common.Common.{Common}
use Rattle.ec_world.specs.declared.world.World.{World}
use Rattle.ec_world.specs.Meaning.{ActivationMeaning}
use Rattle.ec_world.specs.Values.{defaults_of}
use Rattle.ec_world.specs.World.{Turn}
use Rattle.ec_world.specs.Moves.{OperatorMove}

-- ---- the first world

abbrev pub node_object : ObjectRec
node_object = record { class = Node; fields = []; fixed = true; monitor = None }

abbrev pub program_object : ObjectRec
program_object = record { class = Program; fields = []; fixed = false; monitor = None }

abbrev pub first_common : ℕ → List ClassRec → List ValueType → Common
first_common n classes globals = record {
  nodes = n;
  classes = classes;
  objects = replicate n node_object ++ program_object ∷ [];
  globals = defaults_of globals;
  output = [];
  events = [];
}

-- process 0 is about to run operation 0 on the program's own object
abbrev pub first_world : {A : Type 0} → ActivationMeaning A → ℕ → List ClassRec → List ValueType → World A
first_world M n classes globals = record {
  common = first_common n classes globals;
  processes = record { activations = M.begun 0 (suc n) [] ∷ []; status = Ready } ∷ [];
}

-- ---- the next entry

-- a line `turn p times n` stands for n entries
abbrev pub entries_of : Entry → List RunEntry
entries_of (Turns p times) = replicate times (TurnOf p)
entries_of (Move o k) = MoveOf o k ∷ []

abbrev pub expanded : List Entry → List RunEntry
expanded [] = []
expanded (e ∷ es) = entries_of e ++ expanded es

abbrev pub is_ready : ProcStatus → Bool
is_ready Ready = true
is_ready (AtEntry o) = false
is_ready (Cond o) = false
is_ready (Urgent o) = false
is_ready Ended = false
is_ready (Failed cause line) = false

-- ended or failed
abbrev pub is_over : ProcStatus → Bool
is_over Ready = false
is_over (AtEntry o) = false
is_over (Cond o) = false
is_over (Urgent o) = false
is_over Ended = true
is_over (Failed cause line) = true

abbrev pub all_true : List Bool → Bool
all_true [] = true
all_true (b ∷ bs) = b && all_true bs

-- the least place from `from` on that is true; the list begins at place i
abbrev pub first_true : ℕ → ℕ → List Bool → Option ℕ
first_true from i [] = None
first_true from i (b ∷ bs) = if b && nat_le from i then Some i else first_true from (suc i) bs

abbrev pub or_else : Option ℕ → Option ℕ → Option ℕ
or_else (Some p) other = Some p
or_else None other = other

-- round robin: the least Ready process above that of the last turn, else the least Ready one
abbrev pub next_ready_of : List Bool → Option ℕ → Option ℕ
next_ready_of ready None = first_true 0 0 ready
next_ready_of ready (Some last) = or_else (first_true (suc last) 0 ready) (first_true 0 0 ready)

abbrev pub statuses_of : {A : Type 0} → World A → List ProcStatus
statuses_of w = map (λ p. p.status) w.processes

-- ---- states of a run

-- a run so far: the world, what is left of the schedule, the process of the last turn, and the entries done, in order
pub record RunState (A : Type 0) : Type 0 where
  pub world : World A
  pub left : List RunEntry
  pub last : Option ℕ
  pub done : List RunEntry

abbrev pub robin_entry : Option ℕ → Option RunEntry
robin_entry None = None
robin_entry (Some p) = Some (TurnOf p)

-- the schedule's next entry, or round robin's
abbrev pub next_entry : List RunEntry → List ProcStatus → Option ℕ → Option RunEntry
next_entry (e ∷ es) statuses last = Some e
next_entry [] statuses last = robin_entry (next_ready_of (map is_ready statuses) last)

abbrev pub tail_of : List RunEntry → List RunEntry
tail_of [] = []
tail_of (e ∷ es) = es

abbrev pub last_of : RunEntry → Option ℕ → Option ℕ
last_of (TurnOf p) last = Some p
last_of (MoveOf o k) last = last

abbrev pub spent_if : Bool → Option RunEnd
spent_if true = Some Spent
spent_if false = None

abbrev pub end_by : List RunEntry → List ProcStatus → Bool → Option RunEnd
end_by [] statuses spent =
    if all_true (map is_over statuses) then Some Finished
    else if all_true (map (λ s. not (is_ready s)) statuses) then Some Stuck else spent_if spent
end_by (e ∷ es) statuses spent = spent_if spent

-- in this order: the schedule used up and every process ended or failed; the schedule used up and none Ready; as many
-- entries done as the budget
abbrev pub end_of : {A : Type 0} → ℕ → RunState A → Option RunEnd
end_of budget s = end_by s.left (statuses_of s.world) (nat_le budget (length s.done))

module _ {A : Type 0} (M : ActivationMeaning A) (advance : Common → A → Common × A) where
  -- the world after an entry
  abbrev pub after_entry : World A → RunEntry → World A
  after_entry w (TurnOf p) = Turn M advance w p
  after_entry w (MoveOf o k) = OperatorMove w o k

  abbrev pub after_entries : World A → List RunEntry → World A
  after_entries w [] = w
  after_entries w (e ∷ es) = after_entries (after_entry w e) es

  abbrev pub stepped : RunState A → Option RunEntry → RunState A
  stepped s None = s
  stepped s (Some e) = record {
    world = after_entry s.world e;
    left = tail_of s.left;
    last = last_of e s.last;
    done = s.done ++ e ∷ [];
  }

  -- one entry more
  abbrev pub step_run : RunState A → RunState A
  step_run s = stepped s (next_entry s.left (statuses_of s.world) s.last)

  abbrev pub run_start : World A → List Entry → RunState A
  run_start w schedule = record { world = w; left = expanded schedule; last = None; done = [] }

  -- the run after so many entries
  unfoldable pub run_after : World A → List Entry → ℕ → RunState A
  run_after w schedule zero = run_start w schedule
  run_after w schedule (suc k) = step_run (run_after w schedule k)

  -- the run from a world along a schedule within a budget comes to state s after k entries, and has not ended before
  pub record Reaches (w : World A) (schedule : List Entry) (budget k : ℕ) (s : RunState A) : Type 0 where
    pub is : s ≡ run_after w schedule k
    pub going : (j : ℕ) → j < k → end_of budget (run_after w schedule j) ≡ None

  -- the whole run, with its end
  pub record Run (w : World A) (schedule : List Entry) (budget k : ℕ) (s : RunState A) (how : RunEnd) : Type 0 where
    pub reaches : Reaches w schedule budget k s
    pub ends : end_of budget s ≡ Some how
