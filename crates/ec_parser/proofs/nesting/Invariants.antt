use Rattle.std.proofs.Common.{◌≡◌, ◌≤◌, take, reverse}
use Rattle.ec_parser.specs.Reads.{open_in}
use Rattle.ec_parser.proofs.nesting.Given as goal

abbrev pub invariant-loop-symbol : goal.invariant-loop-symbol
invariant-loop-symbol l = (l.open ≤ l.symbol-index) × (l.open ≡ open_in (reverse (take l.symbol-index l.symbol-items)))
