-- One node has run native code, and the others are as they were.
use Rattle.std.proofs.Common.{◌≡◌, ℕ, Some}
use Rattle.std.specs.Prelude.{slice_get}
use Rattle.ec_base.proofs.Lists.{get_set_other, get_set_same, get_within}
use Rattle.ec_cluster.proofs.Putting.{with_node}
use Rattle.ec_cluster.specs.Cluster.{place}
use Rattle.ec_cluster.specs.declared.cluster.Cluster.{Cluster}
use Rattle.ec_legs.specs.Going.{RanNatively}
use Rattle.ec_legs.specs.Nodes.{RunsOn}
use Rattle.ec_stores.specs.Node.{NodeData}

pub ran_natively : (c : Cluster) (k : ℕ) (n n' : NodeData) → slice_get c.nodes k ≡ Some n → (own : ℕ) → place c own ≡ Some k →
    (process depth count : ℕ) → RunsOn n.kind c.images n n' process depth count →
    RanNatively c (with_node c k n') process depth own count
ran_natively c k n n' here own at process depth count runs = record {
  node = k;
  at = at;
  before = n;
  after = n';
  was = here;
  now = get_set_same c.nodes k n' (get_within c.nodes k n here);
  runs = runs;
  others = λ j ne. get_set_other c.nodes k j n' ne;
}
