use Rattle.std.proofs.Common.{◌≡◌, drop}
use Rattle.ec_parser.specs.Choose as table
use Rattle.ec_parser.proofs.has.Given as goal

abbrev pub invariant-loop-k : goal.invariant-loop-k
invariant-loop-k l = table.has_kind l.kind (drop l.k-index l.kinds) ≡ table.has_kind l.kind l.kinds
