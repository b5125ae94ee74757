use Rattle.ec_forwarding.proofs.Histories.{made}
use Rattle.ec_forwarding.proofs.trail.Trail.new.Goals as goal
use Rattle.std.proofs.Common.{[], ◌∷◌}

pub invariant_of-result : goal.invariant_of-result
invariant_of-result c = (c.args.at ∷ [], rw (c.in_ok-push.ensures.items, c.new-known.ensures.items) (made c.args.at))
