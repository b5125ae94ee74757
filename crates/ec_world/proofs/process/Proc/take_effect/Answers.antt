use Rattle.std.proofs.Common.{arith}
use Rattle.std.proofs.lemmas.Grind.{common_steps}
use Rattle.ec_world.proofs.Changes.{called}
use Rattle.ec_world.proofs.process.Proc.take_effect.Goals as goal

pub returns-in_ok-begin-in-Calls : goal.returns-in_ok-begin-in-Calls
returns-in_ok-begin-in-Calls g c =
    let e = called g.A.Activation.meaning c.args.self.now.activations c.args.self.now.status c.in-Calls.op c.in-Calls.own
    c.in-Calls.args c.requires.ready c.requires.some in
    grind (arith, common_steps, e)
