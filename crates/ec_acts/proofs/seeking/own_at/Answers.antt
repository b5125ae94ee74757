-- Some node has the activation, and its headings say what its own object is.
use Rattle.ec_acts.proofs.Stacking.{not_nowhere}
use Rattle.ec_acts.proofs.seeking.own_at.Goals as goal

pub unreachable-requires : goal.unreachable-requires
unreachable-requires c =
    let r = c.requires in
    not_nowhere c.args.cluster.now r.world r.shows c.args.process r.proc r.is c.args.depth r.activation r.there c.in-None.ensures.none

pub returns : goal.returns
returns c = λ w proc a shows is there. (c.in-Some.ensures.some w proc a shows is there).own
