use Rattle.ec_world.proofs.Advancing.{idle}
use Rattle.ec_world.proofs.running.advance_top.Goals as goal

pub returns-in-None : goal.returns-in-None
returns-in-None g c =
    idle g.A.Activation.meaning (g.S.Silent.steps c.args.code.now) c.args.common c.args.process.now.status c.args.process.now.activations
    c.pop.new.self c.in-None.ensures.top c.in-None.ensures.below
