-- Room in the lists of a monitor.
use Rattle.std.specs.Prelude.{ℕ, ◌+◌, ◌≤◌, List, [], ◌∷◌, length, map, Option, Some, None}
use Rattle.std.specs.Global.{Vec}
use Rattle.std.specs.Vec.{vec_capacity}
use Rattle.ec_monitors.specs.declared.record.Hold.{Hold}

abbrev pub held_count : Option Hold → ℕ
held_count None = 0
held_count (Some h) = 1

-- how many wait in these queues
abbrev pub waiting_count : List (Vec Hold) → ℕ
waiting_count [] = 0
waiting_count (q ∷ qs) = length q.items + waiting_count qs

-- what stands in each queue
abbrev pub queues : List (Vec Hold) → List (List Hold)
queues qs = map (λ (q : Vec Hold). q.items) qs

abbrev pub EachHasRoom : ℕ → List (Vec Hold) → Type 0
EachHasRoom n [] = Unit {0}
EachHasRoom n (q ∷ qs) = (n ≤ vec_capacity q) × EachHasRoom n qs

-- how many processes hold or wait
abbrev pub present : Option Hold → List ℕ → List Hold → List (Vec Hold) → ℕ
present holder entry urgent conditions = held_count holder + length entry + length urgent + waiting_count conditions

-- every list has room for every process that holds or waits, so that none of them waits for memory
pub record HasRoom (room : ℕ) (holder : Option Hold) (entry : Vec ℕ) (urgent : Vec Hold) (conditions : List (Vec Hold)) : Type 0 where
  pub fits : present holder entry.items urgent.items conditions ≤ room
  pub of_entry : room ≤ vec_capacity entry
  pub of_urgent : room ≤ vec_capacity urgent
  pub of_conditions : EachHasRoom room conditions

-- a number of processes that is enough for all that stand in these lists, a holder and one more; every list has room for
-- so many
pub record HasRoomFor (room : ℕ) (entry : Vec ℕ) (urgent : Vec Hold) (conditions : List (Vec Hold)) : Type 0 where
  pub fits : length entry.items + length urgent.items + waiting_count conditions + 2 ≤ room
  pub of_entry : room ≤ vec_capacity entry
  pub of_urgent : room ≤ vec_capacity urgent
  pub of_conditions : EachHasRoom room conditions
