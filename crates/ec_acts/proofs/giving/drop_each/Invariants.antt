use Rattle.ec_acts.proofs.Dropped.{Drops}
use Rattle.ec_acts.proofs.giving.drop_each.Given as goal

-- the objects before this one have been given up
abbrev pub invariant-loop-own : goal.invariant-loop-own
invariant-loop-own l = Drops l.fn.cluster l.cluster l.process l.owns l.own-index l.freed
