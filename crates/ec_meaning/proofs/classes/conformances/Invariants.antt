use Rattle.std.proofs.Common.{◌≡◌, map}
use Rattle.ec_types.specs.Table.{conforms}
use Rattle.ec_types.specs.Types.{named}
use Rattle.ec_meaning.specs.Programs.{numbers_to}
use Rattle.ec_meaning.proofs.classes.conformances.Given as goal

abbrev pub invariant-loop-number : goal.invariant-loop-number
invariant-loop-number l = l.found ≡ map (λ n. conforms l.table (named l.class) (named n)) (numbers_to 0 l.number)
