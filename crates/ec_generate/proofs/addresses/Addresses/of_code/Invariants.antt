use Rattle.std.proofs.Common.{◌≡◌, map, take}
use Rattle.ec_generate.proofs.Noting.{IsFoundBelow}
use Rattle.ec_generate.proofs.addresses.Addresses.of_code.Given as goal

abbrev pub invariant-loop-op : goal.invariant-loop-op
invariant-loop-op l = record {
  of : l.of ≡ map (λ o. o.stops) (take l.op l.code.operations);
  at : IsFoundBelow l.op l.at l.code;
}
