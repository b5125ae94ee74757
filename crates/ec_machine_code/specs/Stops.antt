-- The stops of an operation: their places in its three-address code, their numbers, what is live there, and their addresses in
-- machine code (Steensgaard and Jul 1995: bus stops).
use Rattle.std.specs.Prelude.{◌≡◌, ℕ, zero, suc, ◌+◌, Bool, true, false, not, if◌then◌else◌, List, [], ◌∷◌, length, filter}
use Rattle.std.specs.Prelude.{Option, Some, None, slice_get}
use Rattle.ec_code.specs.Activations.{operation_at}
use Rattle.ec_code.specs.Fine.{live_at}
use Rattle.ec_code.specs.declared.code.Line.{Line}
use Rattle.ec_code.specs.declared.code.Live.{Live}
use Rattle.ec_code.specs.declared.code.Op.{Op}
use Rattle.ec_code.specs.declared.code.Op.TheVariants as step
use Rattle.ec_code.specs.declared.code.Operation.{Operation}
use Rattle.ec_code.specs.declared.code.Parts.{Parts}
use Rattle.ec_code.specs.declared.code.StopRow.{StopRow}
use Rattle.ec_code.specs.declared.code.Variable.{Variable}
use Rattle.ec_machine_code.specs.declared.code.Code.{Code}
use Rattle.ec_machine_code.specs.declared.code.OperationCode.{OperationCode}
use Rattle.ec_machine_code.specs.Homes.{column}
use Rattle.ec_machine_code.specs.declared.homes.Home.{Home}
use Rattle.ec_code.specs.Live.{stays}
use Rattle.ec_code.specs.Marks.{is_written}
use Rattle.ec_target.specs.Code.{pc_of}

-- ---- in three-address code

abbrev pub stop_of : Op → Option StopRow
stop_of (step.Rest row) = Some row
stop_of _ = None

abbrev pub stop_in : Option Line → Option StopRow
stop_in None = None
stop_in (Some line) = stop_of line.op

-- the stop at a place of the code
abbrev pub stop_at : List Line → ℕ → Option StopRow
stop_at code q = stop_in (slice_get code q)

abbrev pub with_place : ℕ → Option StopRow → List ℕ → List ℕ
with_place q None places = places
with_place q (Some row) places = q ∷ places

-- the places of the stops, from a place on
abbrev pub places_from : ℕ → List Line → List ℕ
places_from q [] = []
places_from q (line ∷ rest) = with_place q (stop_of line.op) (places_from (suc q) rest)

-- the places of the stops of an operation: stop n is at the place that stands n-th, from 0
abbrev pub stop_places : List Line → List ℕ
stop_places code = places_from 0 code

-- but for the variable that takes what a stop gives
abbrev pub without : Option Variable → List Live → List Live
without into [] = []
without into (l ∷ ls) = if is_written into l.variable then without into ls else l ∷ without into ls

-- What is live at a stop beside its operands: all that is live behind it but for what it gives; nothing where no code goes on.
abbrev pub live_list : List Line → ℕ → StopRow → List Live
live_list code q row = if stays row.stop then without row.into (live_at code (suc q)) else []

-- ---- in machine code

abbrev pub row_or_empty : {A : Type 0} → Option (List A) → List A
row_or_empty None = []
row_or_empty (Some row) = row

abbrev pub words_if : Option OperationCode → ℕ
words_if None = 0
words_if (Some o) = o.words

-- how many words of code an operation has
abbrev pub words_of : Code → ℕ → ℕ
words_of code op = words_if (slice_get code.operations op)

abbrev pub stops_if : Option OperationCode → List ℕ
stops_if None = []
stops_if (Some o) = o.stops

-- the address of stop n of an operation
abbrev pub address_of : Code → ℕ → ℕ → Option ℕ
address_of code op n = slice_get (stops_if (slice_get code.operations op)) n

-- how many words the first so many operations have
abbrev pub words_before : List OperationCode → ℕ → ℕ
words_before [] op = 0
words_before (o ∷ os) zero = 0
words_before (o ∷ os) (suc op) = o.words + words_before os op

abbrev pub words_in_all : List OperationCode → ℕ
words_in_all [] = 0
words_in_all (o ∷ os) = o.words + words_in_all os

-- The address of the stop at a place of an operation's three-address code.
pub record IsStopAt (p : Parts) (code : Code) (op place address : ℕ) : Type 0 where
  pub operation : Operation
  pub is_operation : operation_at p op ≡ Some operation
  pub number : ℕ
  pub is_number : slice_get (stop_places operation.code) number ≡ Some place
  pub is_address : address_of code op number ≡ Some address

-- ---- homes

-- the home of a variable of an operation, by the homes of each operation's variables
abbrev pub home_in : List (List Home) → ℕ → ℕ → Variable → Option Home
home_in homes op named x = slice_get (row_or_empty (slice_get homes op)) (column named x)
