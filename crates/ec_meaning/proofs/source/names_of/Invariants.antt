use Rattle.std.proofs.Common.{◌≡◌, ◌++◌, drop}
use Rattle.ec_meaning.specs.Programs.{operation_names}
use Rattle.ec_meaning.proofs.source.names_of.Given as goal

abbrev pub invariant-loop-o : goal.invariant-loop-o
invariant-loop-o l = l.names ++ operation_names (drop l.o-index l.operations) ≡ operation_names l.operations
