use Rattle.std.proofs.Common.{sym, ◌∙◌}
use Rattle.ec_parser.proofs.Sets.{same_kinds}
use Rattle.ec_parser.proofs.same.Goals as goal

pub returns-clause-same : goal.returns-clause-same
returns-clause-same c is = same_kinds _ _ (sym c.eq.ensures ∙ is)
