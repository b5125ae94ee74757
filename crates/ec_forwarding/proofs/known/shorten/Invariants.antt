use Rattle.ec_forwarding.specs.Addresses.{address_in}
use Rattle.ec_forwarding.proofs.Leading.{Stage}
use Rattle.ec_forwarding.proofs.known.shorten.Given as goal

-- the nodes that were passed have the newest address, and one comes to this node next
abbrev pub invariant-loop : goal.invariant-loop
invariant-loop l = Stage (address_in l.initial.known) l.start l.newest (address_in l.known) l.counter l.node
