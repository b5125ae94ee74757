-- What holds of each place of code.
use Rattle.std.specs.Prelude.{ℕ, List}
use Rattle.ec_code.specs.declared.code.Op.{Op}
use Rattle.ec_code.specs.declared.code.Variable.{Variable}
use Rattle.ec_code.specs.Live.{IsLiveList}

-- There is a list of exactly the variables that are live there, in order and each once.
abbrev pub EachPlaceHasItsList : Type 0
EachPlaceHasItsList = (code : List Op) (q : ℕ) → (xs : List Variable) × IsLiveList code q xs
