use Rattle.std.proofs.Common.{arith}
use Rattle.ec_world.specs.Holding.{act_by}
use Rattle.ec_world.proofs.Holding.{at_there}
use Rattle.ec_world.proofs.object.act_at.Goals as goal

pub returns : goal.returns
returns c = at_there (act_by c.args.p c.args.act) c.args.objects.now c.args.oid c.at_mut.result.now c.act.new.self c.act.result
    (omega arith) c.at_mut.ensures.value c.act.ensures
