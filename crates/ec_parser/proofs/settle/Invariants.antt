use Rattle.ec_parser.specs.Follow.{Follows, Same, weight_of}
use Rattle.ec_parser.specs.Fits.{Fits}
use Rattle.ec_parser.proofs.settle.Given as goal

abbrev pub invariant-opening : goal.invariant-opening
invariant-opening l = Follows l.symbols × Fits l.symbols l.values × Same l.kind l.initial.symbols l.initial.values l.symbols l.values

abbrev pub decreases-opening : goal.decreases-opening
decreases-opening l = weight_of l.symbols
