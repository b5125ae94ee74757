use Rattle.std.proofs.Common.{add-one}
use Rattle.ec_forwarding.specs.Addresses.{address_in}
use Rattle.ec_forwarding.proofs.Leading.{next}
use Rattle.ec_forwarding.proofs.known.shorten.Goals as goal

pub loop-preserved : goal.loop-preserved
loop-preserved c =
    rw add-one (next (address_in c.args.known.now) c.args.start c.args.newest c.args.hops c.requires.leads c.requires.found c.requires.start
    (address_in c.loop.known) (address_in c.renew.new.known) c.loop.counter c.loop.node c.address_of-next.result c.loop-test.true
    c.loop.invariant c.address_of-next.ensures c.renew.ensures)
