use Rattle.std.proofs.Common.{◌∙◌}
use Rattle.ec_world.specs.declared.run.Entry.TheVariants.{Turn}
use Rattle.ec_report.proofs.Left.{rest_at, behind_at}
use Rattle.ec_report.proofs.course.behind_first.Goals as goal

pub returns-then-of_first-count-clause-left : goal.returns-then-of_first-count-clause-left
returns-then-of_first-count-clause-left c = rest_at (Turn 0 0) c.args.of_first c.args.lines.now c.in-len1-up.len_at_least c.requires

pub returns-else-of_first-count-clause-left : goal.returns-else-of_first-count-clause-left
returns-else-of_first-count-clause-left c =
    c.without_empty.ensures.same
    ∙ behind_at _ c.args.of_first c.args.lines.now c.entry_count-count.result c.in-len1-up.len_at_least c.requires
    c.entry_count-count.ensures c.if-of_first-count.false
