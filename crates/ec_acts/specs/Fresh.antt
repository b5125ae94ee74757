-- Nodes that have a program's literals and constants, and nothing else.
use Rattle.std.specs.Prelude.{◌≡◌, ℕ, ◌+◌, ◌^◌, ◌<◌, ◌≤◌, List, [], length, take, Some, None, slice_get}
use Rattle.ec_code.specs.Typing.{kind_of}
use Rattle.ec_code.specs.declared.code.Parts.{Parts}
use Rattle.ec_types.specs.declared.conform.static_type.StaticType.{StaticType}
use Rattle.ec_world.specs.Held.{Distinct}
use Rattle.ec_world.specs.Words.{text_bytes}
use Rattle.ec_world.specs.declared.key.Key.{Key}
use Rattle.ec_stores.specs.Node.{NodeData, store_of}
use Rattle.ec_things.specs.Shows.{GlobalStands}
use Rattle.ec_things.specs.Store.{Store, Tidy}
use Rattle.ec_world.specs.Group.{Has}
use Rattle.ec_world.specs.Values.{default_of}
use Rattle.ec_world.specs.declared.node.NodeSpec.{NodeSpec}

-- at most 65,536 blocks and 16,777,216 bytes of text
pub record IsNodeSize (spec : NodeSpec) : Type 0 where
  pub blocks : spec.blocks ≤ 65536
  pub text : spec.text ≤ 2 ^ 24

-- A node of this size can have the program's constants, and has room for its literals, which are texts each once, the empty one among
-- them.
pub record CanHold (p : Parts) (spec : NodeSpec) : Type 0 where
  pub size : IsNodeSize spec
  pub constants : length p.constants ≤ 4000
  pub once : Distinct p.literals
  pub empty : Has p.literals []
  pub room : text_bytes p.literals ≤ spec.text

-- A node of this size that has run nothing, whose texts are the literals, each at its number.
pub record HasSize (p : Parts) (spec : NodeSpec) (s : Store) : Type 0 where
  pub kind : s.kind ≡ spec.kind
  pub room : s.room ≡ spec.blocks
  pub text_room : s.text_room ≡ spec.text
  pub count : s.count ≡ 0
  pub texts : (i : ℕ) → s.text i ≡ slice_get p.literals i

-- So it is where nothing has been made yet, and each constant has its default.
pub record IsAtFirst (p : Parts) (spec : NodeSpec) (s : Store) : Type 0 where
  pub size : HasSize p spec s
  pub rows : (key : Key) → s.row key ≡ None
  pub constants : (i : ℕ) (t : StaticType) → slice_get p.constants i ≡ Some t → GlobalStands s i (default_of (kind_of t))
  pub free : s.free ≡ spec.blocks
  pub tidy : Tidy s

-- so are the first n nodes
pub record AreAtFirst (p : Parts) (specs : List NodeSpec) (n : ℕ) (nodes : List NodeData) : Type 0 where
  pub many : length nodes ≡ n
  pub each : (k : ℕ) (spec : NodeSpec) (node : NodeData) → slice_get specs k ≡ Some spec → slice_get nodes k ≡ Some node →
      IsAtFirst p spec (store_of node)

-- ---- how a node comes to that

-- all but texts and constants
pub record SameSize (s s' : Store) : Type 0 where
  pub kind : s'.kind ≡ s.kind
  pub rows : (key : Key) → s'.row key ≡ s.row key
  pub room : s'.room ≡ s.room
  pub free : s'.free ≡ s.free
  pub text_room : s'.text_room ≡ s.text_room
  pub count : s'.count ≡ s.count
  pub tidy : Tidy s'

-- the first n texts have come, each at its number, and nothing else has changed
pub record Interned (texts : List (List ℕ)) (n : ℕ) (s s' : Store) : Type 0 where
  pub same : SameSize s s'
  pub global : (i : ℕ) → s'.global i ≡ s.global i
  pub there : (i : ℕ) (t : List ℕ) → i < n → slice_get texts i ≡ Some t → s'.text i ≡ Some t
  pub only : (i : ℕ) (t : List ℕ) → s'.text i ≡ Some t → (i < n) × (slice_get texts i ≡ Some t)
  pub bytes : text_bytes (take n texts) + s'.text_free ≡ s.text_free

-- the first n constants have their defaults, and nothing else has changed
pub record Defaulted (types : List StaticType) (n : ℕ) (s s' : Store) : Type 0 where
  pub same : SameSize s s'
  pub texts : (i : ℕ) → s'.text i ≡ s.text i
  pub each : (i : ℕ) (t : StaticType) → i < n → slice_get types i ≡ Some t → GlobalStands s' i (default_of (kind_of t))
  pub behind : (i : ℕ) → n ≤ i → s'.global i ≡ s.global i
