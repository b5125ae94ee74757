-- The stops that code is made of.
use Rattle.std.specs.Prelude.{ℕ, zero, suc, true, false, List, [], ◌∷◌, Option, Some, None}
use Rattle.ec_code.specs.declared.code.StopRow.{StopRow}
use Rattle.ec_code.specs.declared.code.Variable.{Variable}
use Rattle.ec_code.specs.declared.code.Variable.TheVariants as variable
use Rattle.ec_types.specs.declared.conform.static_type.StaticType.{StaticType}
use Rattle.ec_world.specs.declared.process.Cause.{Cause}
use Rattle.ec_world.specs.declared.stop.Stop.{Stop}
use Rattle.ec_world.specs.declared.stop.Stop.TheVariants as stop

-- so many temporaries, from one on
abbrev pub temporaries : ℕ → ℕ → List Variable
temporaries h zero = []
temporaries h (suc k) = variable.Temporary h ∷ temporaries (suc h) k

abbrev pub into_if : Option StaticType → ℕ → Option Variable
into_if (Some of) h = Some (variable.Temporary h)
into_if None h = None

-- a stop that takes the values in so many temporaries, from one on; what it gives, of a type, goes into the first of these
abbrev pub rest_row : Stop → ℕ → ℕ → Option StaticType → StopRow
rest_row action h takes gives =
    record { stop = action; on_itself = false; operands = temporaries h takes; gives = gives; into = into_if gives h }

-- the same on the own object, which is in the first of these temporaries
abbrev pub own_row : Stop → ℕ → ℕ → Option StaticType → StopRow
own_row action h takes gives =
    record { stop = action; on_itself = true; operands = temporaries h takes; gives = gives; into = into_if gives h }

-- a stop that takes nothing and gives nothing
abbrev pub bare_row : Stop → StopRow
bare_row action = record { stop = action; on_itself = false; operands = []; gives = None; into = None }

abbrev pub fail_row : Cause → ℕ → StopRow
fail_row why line = bare_row (stop.Fail why line)

-- a stop that gives a named variable back
abbrev pub return_row : ℕ → StopRow
return_row n = record { stop = stop.Return false; on_itself = false; operands = variable.Named n ∷ []; gives = None; into = None }
