use Rattle.ec_tool.proofs.Meanings.{each_is_meant}
use Rattle.ec_tool.proofs.laws.each_checked_is_meant.Goals as goal

pub returns : goal.returns
returns c = each_is_meant
