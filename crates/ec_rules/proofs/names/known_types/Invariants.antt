use Rattle.std.proofs.Common.{◌≡◌, drop}
use Rattle.ec_rules.specs.Lists.{each}
use Rattle.ec_rules.specs.Names.{unknown_types}
use Rattle.ec_rules.specs.Rules.{noted}
use Rattle.ec_rules.proofs.names.known_types.Given as goal

abbrev pub invariant-loop-of : goal.invariant-loop-of
invariant-loop-of l =
    noted l.faults (each (unknown_types l.table) (drop l.of-index l.types))
    ≡ noted l.initial.faults (each (unknown_types l.table) l.types)
