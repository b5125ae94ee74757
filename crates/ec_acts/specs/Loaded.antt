-- A system in which process 0 is about to run operation 0.
use Rattle.std.specs.Prelude.{◌≡◌, ◌⊎◌, ◌↔◌, ℕ, List, length, Some, slice_get, Result, Ok, Err}
use Rattle.ec_cluster.specs.Cluster.{stores}
use Rattle.ec_cluster.specs.Images.{homes_on, image_of}
use Rattle.ec_cluster.specs.declared.cluster.Images.{Images}
use Rattle.ec_code.specs.Typing.{Declared}
use Rattle.ec_code.specs.declared.code.Parts.{Parts}
use Rattle.ec_cluster.specs.Whereabouts.{Gives}
use Rattle.ec_cluster.specs.Located.{first_made}
use Rattle.ec_acts.specs.Fresh.{HasSize}
use Rattle.ec_acts.specs.Loading.{HaveRoom, first_needs}
use Rattle.ec_acts.specs.Worlds.{world_first}
use Rattle.ec_acts.specs.declared.load.LoadError.{LoadError}
use Rattle.ec_acts.specs.declared.load.LoadError.TheVariants.{Full, Memory}
use Rattle.ec_node_frames.specs.Frames.{HasTables}
use Rattle.ec_world.specs.declared.room.Lack.{Lack}
use Rattle.ec_cluster.specs.Systems.{Mirrors, Strings}
use Rattle.ec_cluster.specs.declared.system.System.{System}
use Rattle.ec_things.specs.Store.{Store}
use Rattle.ec_things.specs.Texts.{InPool}
use Rattle.ec_world.specs.Group.{Has}
use Rattle.ec_world.specs.declared.node.Kind.{Kind}
use Rattle.ec_world.specs.declared.node.NodeSpec.{NodeSpec}

-- On each kind the images are those of the program, which is well typed and within its limits.
abbrev pub AreImages : Declared → Parts → Images → Type 0
AreImages d p images = (kind : Kind) → HasTables d p kind (homes_on images) (image_of images kind).table.operations

-- The system has the program and its images, and mirrors the first world on these nodes, each of which has room for it. Each node has run
-- nothing; its texts are the literals, each at its number, and so those of that world. Each node's object is at it, and the program's at
-- node 0.
pub record Loaded (p : Parts) (images : Images) (specs : List NodeSpec) (s : System) : Type 0 where
  pub parts : s.cluster.parts ≡ p
  pub images_are : s.cluster.images ≡ images
  pub nodes : length s.cluster.nodes ≡ length specs
  pub mirrors : Mirrors s (world_first (length specs) p)
  pub sizes : (k : ℕ) (spec : NodeSpec) (store : Store) → slice_get specs k ≡ Some spec → stores s.cluster k ≡ Some store →
      HasSize p spec store
  pub texts : (k : ℕ) (store : Store) (text : List ℕ) → stores s.cluster k ≡ Some store →
      InPool store text ↔ (Has p.literals text ⊎ Strings s.cluster (world_first (length specs) p) k text)
  pub whereabouts : Gives s.cluster.whereabouts (first_made (length specs))
  pub fits : HaveRoom (first_needs p images (length specs)) specs (length specs)

-- what is said where a node lacks room
abbrev pub WhenFull : {A : Type 0} → Result A LoadError → (Lack → Type 0) → Type 0
WhenFull (Ok system) P = Unit {0}
WhenFull (Err (Full lack)) P = P lack
WhenFull (Err (Memory error)) P = Unit {0}
