use Rattle.std.proofs.Common.{◌-◌}
use Rattle.ec_acts.proofs.Closing.{Closes}
use Rattle.ec_acts.proofs.effects.close_all.Given as goal

-- the activations from the top down to this one have gone
abbrev pub invariant-loop-i : goal.invariant-loop-i
invariant-loop-i l = Closes l.fn.cluster l.cluster l.who (l.who.depth - l.i)
