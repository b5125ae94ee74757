-- It is one that was noted.
use Rattle.ec_cluster.proofs.FindingLemmas.{seen_there}
use Rattle.ec_cluster.proofs.seen.laws.what_is_seen_is_there.Goals as goal

pub returns : goal.returns
returns c = λ k oid o can e. seen_there k oid o can e
