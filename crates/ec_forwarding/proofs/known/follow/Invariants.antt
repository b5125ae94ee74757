use Rattle.std.proofs.Common.{◌≡◌, ◌≢◌, ◌-◌, ◌<◌, ◌≤◌, ℕ, suc, Some}
use Rattle.ec_forwarding.specs.Addresses.{address_in}
use Rattle.ec_forwarding.specs.Following.{node_after}
use Rattle.ec_forwarding.specs.Traces.{newest_in}
use Rattle.ec_forwarding.proofs.known.follow.Given as goal

-- the address is that which one has after so many hops, the next is that of the node that it names, and no address before it names the place
abbrev pub invariant-loop-next : goal.invariant-loop-next
invariant-loop-next l = record {
  at : node_after (address_in l.known) l.start (suc l.hops) ≡ Some l.address.node;
  kept : (k : ℕ) × (address_in l.known k ≡ Some l.address);
  next : address_in l.known l.address.node ≡ Some l.next;
  few : l.hops ≤ l.address.moves;
  first : (n : ℕ) → n < l.hops → node_after (address_in l.known) l.start (suc n) ≢ Some (newest_in l.known).node;
}

abbrev pub decreases-loop-next : goal.decreases-loop-next
decreases-loop-next l = (newest_in l.known).moves - l.address.moves
