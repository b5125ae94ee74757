use Rattle.std.proofs.Common.{◌∙◌}
use Rattle.ec_world.proofs.Dropping.{dropped_next}
use Rattle.ec_world.proofs.entering.drop_each.Goals as goal

pub loop-own-preserved : goal.loop-own-preserved
loop-own-preserved c =
    dropped_next c.args.p c.loop-own.own-index c.args.owns.now c.loop-own.freed c.push_granted.new.freed c.loop-own.objects
    c.drop_at-granted.new.objects c.drop_at-granted.result c.loop-own-test.true c.drop_at-granted.ensures c.in_ok-push_granted.ensures
    ∙ c.loop-own.invariant
