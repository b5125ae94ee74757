-- What a program asks of nodes on which it is to begin, when they have no room for it, and nodes on which it is about to begin.
use Rattle.std.specs.Prelude.{◌≡◌, ℕ, suc, ◌<◌, ◌≤◌, List, [], length, None, Some, slice_get}
use Rattle.ec_activations.specs.Frames.{frame_thing}
use Rattle.ec_cluster.specs.Cluster.{CodeWorld, Shows, stores}
use Rattle.ec_cluster.specs.Images.{homes_on, image_of}
use Rattle.ec_cluster.specs.declared.cluster.Cluster.{Cluster}
use Rattle.ec_cluster.specs.declared.cluster.Images.{Images}
use Rattle.ec_code.specs.Typing.{Declared}
use Rattle.ec_code.specs.declared.code.Parts.{Parts}
use Rattle.ec_cluster.specs.Whereabouts.{Gives, made_count}
use Rattle.ec_cluster.specs.Located.{Located}
use Rattle.ec_acts.specs.Fresh.{HasSize, IsNodeSize}
use Rattle.ec_acts.specs.Worlds.{first_blocks, first_place, world_first}
use Rattle.ec_cluster.specs.Frames.{tables_on}
use Rattle.ec_node_frames.specs.Beginning.{HasEntry}
use Rattle.ec_node_frames.specs.Frames.{HasTables}
use Rattle.ec_world.specs.Held.{Distinct, Fits, Lacks}
use Rattle.ec_world.specs.Words.{text_bytes}
use Rattle.ec_world.specs.Things.{class_blocks}
use Rattle.ec_world.specs.declared.key.Key.TheVariants.{Frame, Object}
use Rattle.ec_world.specs.declared.room.Lack.{Lack}
use Rattle.ec_world.specs.declared.room.Needs.{Needs}
use Rattle.ec_generate.specs.declared.table.OperationTable.{OperationTable}
use Rattle.ec_things.specs.Held.{Held}
use Rattle.ec_things.specs.Store.{Store}
use Rattle.ec_world.specs.Group.{Has}
use Rattle.ec_world.specs.declared.class.ClassNo.{ClassNo}
use Rattle.ec_world.specs.declared.node.Kind.{Kind}
use Rattle.ec_world.specs.declared.node.NodeSpec.{NodeSpec}

-- The images are those of the program on each kind; it is well typed and within its limits; its literals are texts each once, the
-- empty one among them; and there are 1 to 64 nodes.
pub record CanLoad (p : Parts) (images : Images) (specs : List NodeSpec) : Type 0 where
  pub declared : Declared
  pub tables : (kind : Kind) → HasTables declared p kind (homes_on images) (image_of images kind).table.operations
  pub some : 0 < length specs
  pub few : length specs ≤ 64
  pub sizes : (k : ℕ) (spec : NodeSpec) → slice_get specs k ≡ Some spec → IsNodeSize spec
  pub once : Distinct p.literals
  pub empty : Has p.literals []

-- ---- room

-- What the first world on n nodes needs of node k, which is of this size, and what the node has: the blocks that the world has there, and
-- the bytes of the literals.
abbrev pub first_needs : Parts → Images → ℕ → ℕ → NodeSpec → Needs
first_needs p images n k spec = record {
  blocks = Held (frame_thing p (homes_on images)) (first_place n) k (world_first n p);
  free_blocks = spec.blocks;
  bytes = text_bytes p.literals;
  free_bytes = spec.text;
}

-- the same as it is counted, where the literals have so many bytes
abbrev pub counted : ℕ → ℕ → NodeSpec → Needs
counted bytes k spec = record {
  blocks = first_blocks k;
  free_blocks = spec.blocks;
  bytes = bytes;
  free_bytes = spec.text;
}

-- each of the first so many nodes has room for what is needed of it
abbrev pub HaveRoom : (ℕ → NodeSpec → Needs) → List NodeSpec → ℕ → Type 0
HaveRoom needs specs count = (k : ℕ) (spec : NodeSpec) → k < count → slice_get specs k ≡ Some spec → Fits (needs k spec)

-- A node lacks blocks, or else room for text, as a lack says, and each node before it has room.
pub record LacksFirst (needs : ℕ → NodeSpec → Needs) (specs : List NodeSpec) (lack : Lack) : Type 0 where
  pub spec : NodeSpec
  pub is : slice_get specs lack.node ≡ Some spec
  pub lacks : Lacks lack.part (needs lack.node spec) lack.need lack.free
  pub earlier : HaveRoom needs specs lack.node

-- ---- nodes that show a world on the way to the first

-- Nodes of these sizes have the program and its images, show a world, and have noted its objects.
pub record IsSet (p : Parts) (images : Images) (specs : List NodeSpec) (w : CodeWorld) (at : Located) (c : Cluster) : Type 0 where
  pub parts : c.parts ≡ p
  pub images_are : c.images ≡ images
  pub nodes : length c.nodes ≡ length specs
  pub sizes : (k : ℕ) (spec : NodeSpec) (s : Store) → slice_get specs k ≡ Some spec → stores c k ≡ Some s → HasSize p spec s
  pub whereabouts : Gives c.whereabouts at
  pub many : length w.common.objects ≡ at.made
  pub shows : Shows c w

-- A node is there, and has blocks for an object of a class that has no fields; the object has the next number.
pub record CanMakeAt (c : Cluster) (k oid : ℕ) (class : ClassNo) : Type 0 where
  pub there : k < length c.nodes
  pub next : oid ≡ suc (made_count c.whereabouts)
  pub new : (s : Store) → stores c k ≡ Some s → s.row (Object oid) ≡ None
  pub blocks : (s : Store) → stores c k ≡ Some s → class_blocks class 0 ≤ s.free

-- A node 0 is there and has a block for the first activation, and operation 0 has an entry on each kind.
pub record CanBeginFirst (c : Cluster) : Type 0 where
  pub there : 0 < length c.nodes
  pub new : (s : Store) → stores c 0 ≡ Some s → s.row (Frame 0 0) ≡ None
  pub room : (s : Store) → stores c 0 ≡ Some s → 0 < s.free
  pub entry : (kind : Kind) → (table : OperationTable) × (slice_get (tables_on c kind) 0 ≡ Some table) × HasEntry table
