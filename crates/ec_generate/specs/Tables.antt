-- Which table is that of a program.
use Rattle.std.specs.Prelude.{◌≡◌, ◌≤◌, ℕ, Bool, false, List, [], length, map, Option, Some, None, slice_get}
use Rattle.ec_code.specs.declared.code.Operation.{Operation}
use Rattle.ec_code.specs.declared.code.Parts.{Parts}
use Rattle.ec_code.specs.declared.code.Variable.{Variable}
use Rattle.ec_machine_code.specs.Frames.{slots}
use Rattle.ec_machine_code.specs.Homes.{AreHomes, column}
use Rattle.ec_machine_code.specs.declared.homes.Home.{Home}
use Rattle.ec_machine_code.specs.declared.homes.Home.TheVariants.{Slot}
use Rattle.ec_generate.specs.Entries.{entries_of, is_live}
use Rattle.ec_generate.specs.declared.table.OperationTable.{OperationTable}
use Rattle.ec_generate.specs.declared.table.StopEntry.{StopEntry}
use Rattle.ec_generate.specs.declared.table.StopId.{StopId}
use Rattle.ec_generate.specs.declared.table.StopTable.{StopTable}
use Rattle.ec_world.specs.Agree.{AllTwo}

-- ---- what is read of a table

abbrev pub stops_if : Option OperationTable → List StopEntry
stops_if None = []
stops_if (Some t) = t.stops

abbrev pub stops_at : StopTable → ℕ → List StopEntry
stops_at table op = stops_if (slice_get table.operations op)

abbrev pub or_first : Option Home → Home
or_first None = Slot 0
or_first (Some h) = h

-- the home of a variable; the first slot where it has none
abbrev pub home_in : OperationTable → Variable → Home
home_in t x = or_first (slice_get t.homes (column t.named x))

abbrev pub home_if : Option OperationTable → Variable → Home
home_if None x = Slot 0
home_if (Some t) x = home_in t x

abbrev pub home_at : StopTable → ℕ → Variable → Home
home_at table op x = home_if (slice_get table.operations op) x

abbrev pub is_live_if : Option StopEntry → Variable → Bool
is_live_if None x = false
is_live_if (Some e) x = is_live e x

abbrev pub is_live_at : StopTable → StopId → Variable → Bool
is_live_at table id x = is_live_if (slice_get (stops_at table id.operation) id.stop) x

-- the homes of each operation's variables
abbrev pub all_homes : List OperationTable → List (List Home)
all_homes ts = map (λ t. t.homes) ts

-- ---- the table of a program

-- Homes are so many registers, and so many slots of the frame. Variables that meet have different homes, and one has a slot only where each
-- register is the home of a variable that meets it.
pub record IsTableOf (registers count : ℕ) (o : Operation) (t : OperationTable) : Type 0 where
  pub named : t.named ≡ length o.variables
  pub homes : AreHomes t.named count registers o.code t.homes
  pub stops : t.stops ≡ entries_of o.code

abbrev pub AreTablesOf : ℕ → ℕ → Parts → List OperationTable → Type 0
AreTablesOf registers count p ts = AllTwo (IsTableOf registers count) p.operations ts

-- those for at most so many registers, and for the slots of a frame
pub record AreTablesWithin (most : ℕ) (p : Parts) (ts : List OperationTable) : Type 0 where
  pub registers : ℕ
  pub few : registers ≤ most
  pub are : AreTablesOf registers slots p ts
