use Rattle.std.proofs.Common.{◌∙◌, ap}
use Rattle.std.specs.Prelude.{is_some}
use Rattle.ec_forwarding.proofs.Knowing.{is_known}
use Rattle.ec_forwarding.proofs.known.is_known.Goals as goal

pub returns : goal.returns
returns c = c.is_some.ensures ∙ ap is_some c.index_of.ensures ∙ is_known c.args.known.now c.args.node
