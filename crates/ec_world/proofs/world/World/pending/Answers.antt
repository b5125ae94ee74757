use Rattle.std.proofs.Common.{arith}
use Rattle.ec_world.proofs.Acting.{top_there}
use Rattle.ec_world.proofs.world.World.pending.Goals as goal

pub last-requires : goal.last-requires
last-requires g c =
    top_there c.in_ok-process.process.now.activations (let l = c.len.ensures in let h = c.if-len-eq0.false in omega arith)
