use Rattle.std.proofs.Common.{arith}
use Rattle.ec_world.proofs.FirstTrue.{first_true-skip}
use Rattle.ec_world.proofs.robin.first_ready.Goals as goal

pub loop-p-init : goal.loop-p-init
loop-p-init c = first_true-skip c.args.from 0 c.args.ready.now c.args.from (omega arith)
