use Rattle.ec_parser.proofs.Theory.{ends_here}
use Rattle.ec_parser.proofs.finish.Goals as goal

pub returns-in-End : goal.returns-in-End
returns-in-End c = ends_here _ _ _ (rw c.in-End.is at c.in_ok-settle.ensures).0 (rw c.in-End.is at c.in_ok-settle.ensures).2
