use Rattle.std.proofs.Common.{arith}
use Rattle.ec_base.proofs.Lists.{get_there}
use Rattle.ec_generate.proofs.Listing.{one_stop}
use Rattle.ec_generate.specs.Entries.{entries_of}
use Rattle.ec_generate.proofs.entries.entries_of.Goals as goal

pub loop-q-preserved : goal.loop-q-preserved
loop-q-preserved c =
    let there = get_there c.args.code.now c.loop-q.q (omega arith) in
    one_stop c.args.code.now c.loop-q.q there.0 c.loop-q.entries c.put_stop.new.entries (entries_of c.args.code.now) there.1
    c.loop-q.invariant c.in_ok-put_stop.ensures
