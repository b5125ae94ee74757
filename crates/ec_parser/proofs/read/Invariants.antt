use Rattle.std.proofs.Common.{take}
use Rattle.ec_parser.proofs.Progress.{Reached}
use Rattle.ec_parser.proofs.read.Given as goal

abbrev pub invariant-loop-i : goal.invariant-loop-i
invariant-loop-i l = Reached (take l.i l.tokens) l.symbols l.values
