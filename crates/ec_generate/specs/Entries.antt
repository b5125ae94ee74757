-- The stops of an operation, each with what is live there.
use Rattle.std.specs.Prelude.{ℕ, suc, Bool, false, ◌||◌, if◌then◌else◌, List, [], ◌∷◌, map, Option, Some, None, slice_get}
use Rattle.ec_code.specs.declared.code.Line.{Line}
use Rattle.ec_code.specs.declared.code.Live.{Live}
use Rattle.ec_code.specs.declared.code.StopRow.{StopRow}
use Rattle.ec_code.specs.declared.code.Variable.{Variable}
use Rattle.ec_types.specs.declared.conform.static_type.StaticType.{StaticType}
use Rattle.ec_types.specs.declared.conform.static_type.StaticType.TheVariants as type
use Rattle.ec_machine_code.specs.Stops.{live_list, stop_of}
use Rattle.ec_code.specs.Marks.{is_same}
use Rattle.ec_generate.specs.declared.table.StopEntry.{StopEntry}

-- a variable with the type that it has among live ones; unknown where it isn't live
abbrev pub typed : List Live → Variable → Live
typed [] x = record { variable = x; of = type.Unknown }
typed (l ∷ ls) x = if is_same l.variable x then record { variable = x; of = l.of } else typed ls x

-- the variable that takes what a stop gives
abbrev pub result_of : Option Variable → Option StaticType → Option Live
result_of (Some x) (Some s) = Some (record { variable = x; of = s })
result_of _ _ = None

-- the stop at place q of the code, whose line is this one
abbrev pub entry_of : List Line → ℕ → Line → StopRow → StopEntry
entry_of code q line row = record {
  place = q;
  operands = map (typed line.live) row.operands;
  result = result_of row.into row.gives;
  live = live_list code q row;
}

abbrev pub with_entry : List Line → ℕ → Line → Option StopRow → List StopEntry → List StopEntry
with_entry code q line None entries = entries
with_entry code q line (Some row) entries = entry_of code q line row ∷ entries

-- the stops of these lines of the code, the first of which is at place q
abbrev pub entries_from : List Line → ℕ → List Line → List StopEntry
entries_from code q [] = []
entries_from code q (line ∷ rest) = with_entry code q line (stop_of line.op) (entries_from code (suc q) rest)

abbrev pub entries_of : List Line → List StopEntry
entries_of code = entries_from code 0 code

-- the stop at place q alone, where there is one
abbrev pub stop_if : List Line → ℕ → Option Line → List StopEntry
stop_if code q None = []
stop_if code q (Some line) = with_entry code q line (stop_of line.op) []

abbrev pub stop_here : List Line → ℕ → List StopEntry
stop_here code q = stop_if code q (slice_get code q)

-- ---- what is live at a stop

abbrev pub is_in : List Live → Variable → Bool
is_in [] x = false
is_in (l ∷ ls) x = is_same l.variable x || is_in ls x

abbrev pub is_in_if : Option Live → Variable → Bool
is_in_if None x = false
is_in_if (Some l) x = is_same l.variable x

-- an operand, what takes the result, or live behind it
abbrev pub is_live : StopEntry → Variable → Bool
is_live e x = is_in e.operands x || (is_in_if e.result x || is_in e.live x)
