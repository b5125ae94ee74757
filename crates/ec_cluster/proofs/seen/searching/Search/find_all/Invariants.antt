use Rattle.ec_cluster.specs.Whereabouts.{made_count}
use Rattle.ec_cluster.proofs.Marking.{FindsOn}
use Rattle.ec_cluster.proofs.seen.searching.Search.find_all.Given as goal

-- the numbers from the index on are still to be found
abbrev pub invariant-loop-oid : goal.invariant-loop-oid
invariant-loop-oid l = FindsOn (made_count l.seen.whereabouts) l.initial.self l.self l.oids l.oid-index
