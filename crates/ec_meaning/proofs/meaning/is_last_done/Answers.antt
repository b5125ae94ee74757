use Rattle.std.proofs.Common.{arith}
use Rattle.ec_meaning.proofs.Advancing.{has_top}
use Rattle.ec_meaning.proofs.meaning.is_last_done.Goals as goal

pub last-requires : goal.last-requires
last-requires c = has_top c.args.activations.now (omega arith)
