use Rattle.std.proofs.Common.{Some, None}
use Rattle.ec_world.proofs.Holding.{drop_by}
use Rattle.ec_world.proofs.entering.drop_at.Goals as goal

pub returns-in-Some : goal.returns-in-Some
returns-in-Some c = drop_by c.args.objects.now c.act_at.new.objects c.args.p c.args.oid (Some c.in-Some.granted) c.in-Some.ensures

pub returns-in-None : goal.returns-in-None
returns-in-None c = drop_by c.args.objects.now c.act_at.new.objects c.args.p c.args.oid None c.in-None.ensures
