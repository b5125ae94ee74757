-- The new activation comes, and the one below it is finished.
use Rattle.ec_cluster.proofs.Answered.{on_ok_two}
use Rattle.ec_acts.proofs.Effected.{called, then_can}
use Rattle.ec_acts.proofs.effects.call.Goals as goal

pub finish-requires : goal.finish-requires
finish-requires c =
    let r = c.requires in
    record {
      rests = then_can r.declared c.args.cluster.now r.world r.below r.top c.args.who c.args.operation c.args.own c.args.arguments.now
          r.takes c.begin.new.cluster c.in_ok-depth.depth c.in_ok-depth.ensures c.in_ok-begin.ensures.changes c.begin.ensures.whereabouts
          c.in_ok-begin.ensures.stack;
    }

pub returns : goal.returns
returns c = on_ok_two c.finish.result
    (λ shows changes d w below top status t.
    called d c.args.cluster.now w below top c.args.who c.args.operation c.args.own c.args.arguments.now t c.begin.new.cluster
    c.in_ok-depth.depth c.in_ok-depth.ensures c.in_ok-begin.ensures.changes c.begin.ensures.whereabouts c.in_ok-begin.ensures.stack
    c.finish.new.cluster status shows changes c.finish.ensures.whereabouts)
    c.finish.ensures.shows c.finish.ensures.changes
