use Rattle.ec_report.proofs.Left.{first_at}
use Rattle.ec_report.proofs.course.first_entry.Goals as goal

pub returns : goal.returns
returns c = first_at _ c.args.of_first c.args.lines.now c.entry_of.result c.in-len1-up.len_at_least c.requires c.entry_of.ensures
