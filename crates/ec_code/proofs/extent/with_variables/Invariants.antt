use Rattle.std.proofs.Common.{◌≡◌, drop}
use Rattle.ec_code.specs.Listed.{with_all, IsSmall}
use Rattle.ec_code.proofs.extent.with_variables.Given as goal

abbrev pub invariant-loop-x : goal.invariant-loop-x
invariant-loop-x l = (with_all l.all (drop l.x-index l.variables) ≡ with_all l.fn.e l.variables) × IsSmall l.all
