use Rattle.std.proofs.Common.{◌≡◌, drop}
use Rattle.ec_world.specs.Places.{moved}
use Rattle.ec_world.proofs.places.send.Given as goal

-- the members from this one on are still to be sent
abbrev pub invariant-loop-member : goal.invariant-loop-member
invariant-loop-member l = moved l.placement.items (drop l.member-index l.members) l.k ≡ moved l.initial.placement.items l.members l.k
