-- Nodes of given sizes that show a world, with given texts in their pools.
use Rattle.std.specs.Prelude.{◌≡◌, ℕ, ◌↔◌, List, length, Some, slice_get}
use Rattle.ec_cluster.specs.Cluster.{CodeWorld, stores}
use Rattle.ec_cluster.specs.declared.cluster.Cluster.{Cluster}
use Rattle.ec_cluster.specs.Systems.{Mirrors}
use Rattle.ec_cluster.specs.declared.system.System.{System}
use Rattle.ec_things.specs.Store.{Store}
use Rattle.ec_things.specs.Texts.{InPool}
use Rattle.ec_world.specs.declared.node.NodeSpec.{NodeSpec}

-- as many nodes, of the sizes that were asked for
pub record HaveSizes (specs : List NodeSpec) (c : Cluster) : Type 0 where
  pub nodes : length c.nodes ≡ length specs
  pub blocks : (k : ℕ) (spec : NodeSpec) (s : Store) → slice_get specs k ≡ Some spec → stores c k ≡ Some s → s.room ≡ spec.blocks
  pub text : (k : ℕ) (spec : NodeSpec) (s : Store) → slice_get specs k ≡ Some spec → stores c k ≡ Some s → s.text_room ≡ spec.text

-- the pool of each node has these texts and no others
abbrev pub HavePools : Cluster → (ℕ → List ℕ → Type 0) → Type 0
HavePools c Pool = (k : ℕ) (s : Store) (text : List ℕ) → stores c k ≡ Some s → InPool s text ↔ Pool k text

-- A system of these sizes shows a world, and has these texts.
pub record ShowsWith (specs : List NodeSpec) (s : System) (w : CodeWorld) (Pool : ℕ → List ℕ → Type 0) : Type 0 where
  pub mirrors : Mirrors s w
  pub sizes : HaveSizes specs s.cluster
  pub pools : HavePools s.cluster Pool
