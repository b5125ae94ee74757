use Rattle.std.proofs.Common.{◌≡◌, drop}
use Rattle.ec_rules.specs.Names.{unknown_in_parameters}
use Rattle.ec_rules.specs.Rules.{noted}
use Rattle.ec_rules.proofs.names.known_parameters.Given as goal

abbrev pub invariant-loop-p : goal.invariant-loop-p
invariant-loop-p l =
    noted l.faults (unknown_in_parameters l.table (drop l.p-index l.parameters))
    ≡ noted l.initial.faults (unknown_in_parameters l.table l.parameters)
