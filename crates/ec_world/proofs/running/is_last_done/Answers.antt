use Rattle.std.proofs.Common.{arith}
use Rattle.ec_world.proofs.Advancing.{has_top}
use Rattle.ec_world.proofs.running.is_last_done.Goals as goal

pub last-requires : goal.last-requires
last-requires g c = has_top c.args.activations.now (omega arith)
