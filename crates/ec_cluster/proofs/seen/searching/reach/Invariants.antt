use Rattle.ec_cluster.specs.Whereabouts.{made_count}
use Rattle.ec_cluster.proofs.Marking.{Searches, work}
use Rattle.ec_cluster.proofs.seen.searching.reach.Given as goal

abbrev pub invariant-loop-next : goal.invariant-loop-next
invariant-loop-next l = Searches l.seen l.oid l.search

abbrev pub decreases-loop-next : goal.decreases-loop-next
decreases-loop-next l = work (made_count l.seen.whereabouts) l.search
