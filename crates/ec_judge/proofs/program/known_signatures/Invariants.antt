use Rattle.std.proofs.Common.{◌≡◌, drop}
use Rattle.ec_rules.specs.Lists.{each}
use Rattle.ec_rules.specs.Names.{unknown_in_signature}
use Rattle.ec_rules.specs.Rules.{noted}
use Rattle.ec_judge.proofs.program.known_signatures.Given as goal

abbrev pub invariant-loop-s : goal.invariant-loop-s
invariant-loop-s l =
    noted l.faults (each (unknown_in_signature l.table) (drop l.s-index l.operations))
    ≡ noted l.initial.faults (each (unknown_in_signature l.table) l.operations)
