use Rattle.std.proofs.Common.{Some, None}
use Rattle.ec_world.proofs.Holding.{wait_by}
use Rattle.ec_world.proofs.common.Common.wait.Goals as goal

pub returns-in-Some : goal.returns-in-Some
returns-in-Some c = wait_by c.args.self.now c.args.who c.act_at.new.objects (Some c.in-Some.granted) c.args.condition c.in-Some.ensures

pub returns-in-None : goal.returns-in-None
returns-in-None c = rw c.goes_on.ensures (wait_by c.args.self.now c.args.who c.act_at.new.objects None c.args.condition c.in-None.ensures)
