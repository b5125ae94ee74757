use Rattle.std.proofs.Common.{◌≡◌, drop}
use Rattle.ec_parser.specs.Choose as table
use Rattle.ec_parser.proofs.suits.Given as goal

abbrev pub invariant-loop-symbol : goal.invariant-loop-symbol
invariant-loop-symbol l = table.suits l.kind (drop l.symbol-index l.alternative) ≡ table.suits l.kind l.alternative
