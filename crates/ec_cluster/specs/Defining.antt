-- What holds in the loop that gives a constant its value at each node.
use Rattle.std.specs.Prelude.{◌≡◌, ℕ, ◌<◌, ◌≤◌, List, Some, length, slice_get}
use Rattle.ec_cluster.specs.declared.cluster.Cluster.{Cluster}
use Rattle.ec_stores.specs.Node.{NodeData, store_of}
use Rattle.ec_things.specs.Changes.{PutsGlobal}
use Rattle.ec_things.specs.Texts.{GetsTexts}
use Rattle.ec_world.specs.declared.value.Value.{Value}
use Rattle.ec_world.specs.declared.value.Value.TheVariants.{Str}

-- the first so many nodes have the value, and the others are as they were
pub record DefinedUpTo (old now : List NodeData) (i : ℕ) (v : Value) (count : ℕ) : Type 0 where
  pub many : length now ≡ length old
  pub before : (k : ℕ) (n n' : NodeData) → k < count → slice_get old k ≡ Some n → slice_get now k ≡ Some n' →
      PutsGlobal (store_of n) (store_of n') i v × GetsTexts (λ text. v ≡ Str text) (store_of n) (store_of n')
  pub behind : (k : ℕ) → count ≤ k → slice_get now k ≡ slice_get old k

-- so it is with a cluster, of which nothing but the nodes has changed
pub record Defining (c now : Cluster) (i : ℕ) (v : Value) (count : ℕ) : Type 0 where
  pub nodes : DefinedUpTo c.nodes now.nodes i v count
  pub parts : now.parts ≡ c.parts
  pub images : now.images ≡ c.images
  pub whereabouts : now.whereabouts ≡ c.whereabouts
