use Rattle.ec_types.proofs.Striking.{follows_on}
use Rattle.ec_types.proofs.conform.pairs.check_users.Goals as goal

pub loop-a-preserved : goal.loop-a-preserved
loop-a-preserved c = follows_on c.loop-a.invariant c.in_ok-check_row.ensures
