-- The activation below the top is finished, and the top goes.
use Rattle.std.specs.Prelude.{option_copied}
use Rattle.ec_acts.proofs.Effected.{has_lower_one, left, lower_can, top_there}
use Rattle.ec_acts.proofs.effects.leave.Goals as goal

pub own_at-own-requires : goal.own_at-own-requires
own_at-own-requires c =
    let r = c.requires in
    has_lower_one r.declared c.args.cluster.now r.world r.below r.top c.args.who (option_copied c.args.given) r.takes

pub finish-requires : goal.finish-requires
finish-requires c =
    let r = c.requires in
    record {
      rests = lower_can r.declared c.args.cluster.now r.world r.below r.top c.args.who (option_copied c.args.given) r.takes
          c.own_at-own.result c.own_at-own.ensures;
    }

pub close-requires : goal.close-requires
close-requires c =
    let r = c.requires in
    top_there r.declared c.args.cluster.now r.world r.below r.top c.args.who (option_copied c.args.given) r.takes c.own_at-own.result
    c.own_at-own.ensures c.finish.new.cluster c.in_ok-finish.ensures.shows

pub returns : goal.returns
returns c = λ d w below top status t.
    left d c.args.cluster.now w below top c.args.who (option_copied c.args.given) t c.own_at-own.result c.own_at-own.ensures
    c.finish.new.cluster c.in_ok-finish.ensures.shows c.in_ok-finish.ensures.changes c.finish.ensures.whereabouts c.close.new.cluster status
    c.close.ensures.shows c.close.ensures.changes c.close.ensures.whereabouts
