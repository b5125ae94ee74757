use Rattle.std.proofs.Common.{◌≡◌, drop}
use Rattle.ec_world.specs.Outcomes.{dropped_each}
use Rattle.ec_world.proofs.Dropping.{and_freed}
use Rattle.ec_world.proofs.entering.drop_each.Given as goal

-- those that are freed, and what is still to be dropped
abbrev pub invariant-loop-own : goal.invariant-loop-own
invariant-loop-own l = and_freed l.freed (dropped_each l.p (drop l.own-index l.owns) l.objects) ≡ dropped_each l.p l.owns l.initial.objects
