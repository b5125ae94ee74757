-- Which variables of an operation meet: where both are live at one place, or one is live just behind a write of the other.
-- (Chaitin and others, Register allocation via coloring, 1981.)
use Rattle.std.specs.Prelude.{◌≢◌, Bool, true, false, List, [], ◌∷◌, ◌++◌, map, Option, Some, None}
use Rattle.ec_code.specs.declared.code.Line.{Line}
use Rattle.ec_code.specs.declared.code.Variable.{Variable}
use Rattle.ec_code.specs.Fine.{IsIn}
use Rattle.ec_code.specs.Live.{writes}
use Rattle.ec_code.specs.Marks.{is_among, is_same}

-- the variables that are live before a line
abbrev pub live_in : Line → List Variable
live_in line = map (λ l. l.variable) line.live

-- and those that are live before the first of these lines
abbrev pub live_first : List Line → List Variable
live_first [] = []
live_first (line ∷ lines) = live_in line

-- where a variable is among some, all of these
abbrev pub all_if : Bool → List Variable → List Variable
all_if true ys = ys
all_if false ys = []

-- With a write, behind which these are live: the written one meets them all, and each of them meets the written one.
abbrev pub met_behind : Variable → Option Variable → List Variable → List Variable
met_behind x None behind = []
met_behind x (Some y) behind = all_if (is_same x y) behind ++ all_if (is_among x behind) (y ∷ [])

-- the variables that meet one at a line or just behind it, itself among them
abbrev pub met_at : Variable → Line → List Line → List Variable
met_at x line rest = all_if (is_among x (live_in line)) (live_in line) ++ met_behind x (writes line.op) (live_first rest)

abbrev pub met_by : Variable → List Line → List Variable
met_by x [] = []
met_by x (line ∷ rest) = met_at x line rest ++ met_by x rest

-- Two variables meet somewhere in the code.
abbrev pub Meet : List Line → Variable → Variable → Type 0
Meet code x y = (x ≢ y) × IsIn y (met_by x code)
