use Rattle.std.proofs.Common.{◌≡◌}
use Rattle.ec_meaning.specs.Sources.{source_of}
use Rattle.ec_meaning.proofs.Advancing.{idle}
use Rattle.ec_meaning.proofs.meaning.advance_top.Goals as goal

pub returns-in-None : goal.returns-in-None
returns-in-None c =
    idle (source_of c.args.program.now) c.args.common c.args.process.now.status c.args.process.now.activations c.pop.new.self
    c.in-None.ensures.top c.in-None.ensures.below
