-- The activation on top is finished.
use Rattle.std.specs.Prelude.{option_copied}
use Rattle.ec_cluster.proofs.Answered.{on_ok_two}
use Rattle.ec_acts.proofs.Effected.{top_can, top_done}
use Rattle.ec_acts.proofs.effects.go_on.Goals as goal

pub finish-requires : goal.finish-requires
finish-requires c =
    let r = c.requires in
    record {
      rests = top_can r.declared c.args.cluster.now r.world r.below r.top c.args.who (option_copied c.args.given) r.takes;
    }

pub returns : goal.returns
returns c = on_ok_two c.finish.result
    (λ shows changes d w below top status t.
    top_done d c.args.cluster.now w below top c.args.who (option_copied c.args.given) t c.finish.new.cluster status shows changes
    c.finish.ensures.whereabouts)
    c.finish.ensures.shows c.finish.ensures.changes
