use Rattle.std.proofs.Common.{◌∙◌}
use Rattle.ec_world.proofs.Changes.{no_top}
use Rattle.ec_world.proofs.process.finish_last.Goals as goal

pub returns-in-None : goal.returns-in-None
returns-in-None g c = c.in-None.ensures.below ∙ no_top g.A.Activation.meaning _ c.args.given c.in-None.ensures.top
