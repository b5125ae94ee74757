use Rattle.ec_acts.proofs.Owning.{OwnsDown}
use Rattle.ec_acts.proofs.giving.owns_of.Given as goal

-- the activations down to this one
abbrev pub invariant-loop-i : goal.invariant-loop-i
invariant-loop-i l = OwnsDown l.cluster l.who l.i l.owns
