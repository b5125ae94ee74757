use Rattle.std.proofs.Common.{arith}
use Rattle.std.proofs.lemmas.Result.{IfOk-weaker}
use Rattle.ec_world.specs.Holding.{entry_of}
use Rattle.ec_world.proofs.Holding.{at_there}
use Rattle.ec_world.proofs.object.enter_at.Goals as goal

pub returns : goal.returns
returns c =
    IfOk-weaker c.enter.result _ _
    (λ e h. at_there (entry_of c.args.p) c.args.objects.now c.args.oid c.at_mut.result.now c.enter.new.self e (omega arith)
    c.at_mut.ensures.value h)
    c.enter.ensures
