use Rattle.std.proofs.Common.{drop}
use Rattle.ec_expressions.specs.Numbers.{ArePlacesFrom, class_numbers}
use Rattle.ec_expressions.proofs.tables.places_of_classes.Given as goal

-- the classes from n on have their places
abbrev pub invariant-loop-n : goal.invariant-loop-n
invariant-loop-n l = ArePlacesFrom l.n l.places (class_numbers (drop l.n l.classes))
