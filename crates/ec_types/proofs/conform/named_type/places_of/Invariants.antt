use Rattle.std.proofs.Common.{◌≡◌, ◌++◌, drop}
use Rattle.ec_types.specs.Types as spec
use Rattle.ec_types.proofs.conform.named_type.places_of.Given as goal

abbrev pub invariant-loop-d : goal.invariant-loop-d
invariant-loop-d l = l.places.items ++ spec.places_of (drop l.d-index l.declared) ≡ spec.places_of l.declared
