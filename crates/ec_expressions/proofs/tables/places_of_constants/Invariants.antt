use Rattle.std.proofs.Common.{drop}
use Rattle.ec_expressions.specs.Numbers.{ArePlacesFrom, constant_numbers}
use Rattle.ec_expressions.proofs.tables.places_of_constants.Given as goal

-- the constants from n on have their places
abbrev pub invariant-loop-n : goal.invariant-loop-n
invariant-loop-n l = ArePlacesFrom l.n l.places (constant_numbers (drop l.n l.constants))
