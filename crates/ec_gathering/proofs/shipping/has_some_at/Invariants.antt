-- None of the members before is at the node.
use Rattle.std.proofs.Common.{◌≡◌, ◌≢◌, ◌<◌, ℕ, Some}
use Rattle.std.specs.Prelude.{slice_get}
use Rattle.ec_cluster.specs.Cluster.{place}
use Rattle.ec_gathering.proofs.shipping.has_some_at.Given as goal

abbrev pub invariant-loop-member : goal.invariant-loop-member
invariant-loop-member l = (i x : ℕ) → i < l.member-index → slice_get l.members i ≡ Some x → place l.cluster x ≢ Some l.node
