use Rattle.std.proofs.Common.{◌≡◌, ◌++◌, drop}
use Rattle.ec_types.specs.Types as spec
use Rattle.ec_types.proofs.conform.named_type.firsts_of.Given as goal

abbrev pub invariant-loop-at : goal.invariant-loop-at
invariant-loop-at l = l.firsts.items ++ spec.firsts_of (drop l.at-index l.places) ≡ spec.firsts_of l.places
