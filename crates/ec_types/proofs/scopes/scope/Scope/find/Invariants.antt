use Rattle.std.proofs.Common.{◌≡◌, ◌+◌, length, drop}
use Rattle.ec_types.specs.Scopes as spec
use Rattle.ec_types.proofs.scopes.scope.Scope.find.Given as goal

abbrev pub invariant-loop-object : goal.invariant-loop-object
invariant-loop-object l = record {
  out_of : l.out + l.object-index ≡ length l.self.objects;
  further : spec.found_within l.name l.found (drop l.object-index l.self.objects) ≡ spec.find l.self l.name;
}
