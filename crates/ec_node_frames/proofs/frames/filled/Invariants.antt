use Rattle.ec_node_frames.proofs.frames.filled.Given as goal
use Rattle.ec_node_frames.specs.Loops.{IsFilled}

abbrev pub invariant-loop-i : goal.invariant-loop-i
invariant-loop-i l = IsFilled l.table l.held l.words l.heads l.frame.items l.i
