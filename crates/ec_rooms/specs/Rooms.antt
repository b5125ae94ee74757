-- What a world holds at each node and which texts it has there, by the world and its events alone; and when an entry finds no room.
use Rattle.std.specs.Prelude.{◌≡◌, ℕ, ◌-◌, ◌<◌, List, [], length, Some, slice_get}
use Rattle.ec_activations.specs.Frames.{frame_thing}
use Rattle.ec_cluster.specs.Cluster.{CodeWorld}
use Rattle.ec_code.specs.declared.activation.CodeActivation.{CodeActivation}
use Rattle.ec_code.specs.declared.code.Parts.{Parts}
use Rattle.ec_acts.specs.Worlds.{world_first}
use Rattle.ec_world.specs.Held.{Fits, Lacks}
use Rattle.ec_world.specs.declared.room.Needs.{Needs}
use Rattle.ec_world.specs.declared.room.Part.{Part}
use Rattle.ec_rooms.specs.Places.{place_of}
use Rattle.ec_things.specs.Held.{Held}
use Rattle.ec_things.specs.Texts.{BytesOf, TextsHeld}
use Rattle.ec_things.specs.Things.{Thing, things_of}
use Rattle.ec_world.specs.Group.{Has}
use Rattle.ec_world.specs.declared.node.NodeSpec.{NodeSpec}

-- ---- what is where

-- An activation as nodes keep it: one block at the place of its own object, with its live values. (Where its words lie depends on the
-- kind of node; no room does.)
abbrev pub frame : Parts → ℕ → ℕ → CodeActivation → Thing
frame p = frame_thing p (λ kind. [])

-- the blocks that a world holds at node k: of its objects and of its activations there
abbrev pub held : Parts → CodeWorld → ℕ → ℕ
held p w k = Held (frame p) (place_of w) k w

-- the texts that a world has at node k: in objects and activations there, and in constants, which each node has
abbrev pub Strings : Parts → CodeWorld → ℕ → List ℕ → Type 0
Strings p w = TextsHeld (things_of (frame p) w) w.common.globals (place_of w)

-- ---- what is needed

-- What an entry needs of a node of this size that holds so many blocks before it and so many after it, whose pool has some texts and is to
-- have others: the blocks by which those held rise, and the bytes of texts that the pool lacks; and what is free of both before it.
pub record NeedsOf (spec : NodeSpec) (before after : ℕ) (Pool Wanted : List ℕ → Type 0) (n : Needs) : Type 0 where
  pub blocks : n.blocks ≡ after - before
  pub free_blocks : n.free_blocks ≡ spec.blocks - before
  pub bytes : BytesOf (λ text. Wanted text × (Pool text → ⊥)) n.bytes
  pub used : ℕ
  pub used_is : BytesOf Pool used
  pub free_bytes : n.free_bytes ≡ spec.text - used

-- Node k is the least one that lacks room, blocks before text: so much is needed there, and so much is free.
pub record FullAt (specs : List NodeSpec) (before after : ℕ → ℕ) (Pool Wanted : ℕ → List ℕ → Type 0) (k : ℕ) (part : Part)
    (need free : ℕ) : Type 0 where
  pub spec : NodeSpec
  pub there : slice_get specs k ≡ Some spec
  pub needs : Needs
  pub are : NeedsOf spec (before k) (after k) (Pool k) (Wanted k) needs
  pub lacks : Lacks part needs need free
  pub earlier : (j : ℕ) (other : NodeSpec) (n : Needs) → j < k → slice_get specs j ≡ Some other →
      NeedsOf other (before j) (after j) (Pool j) (Wanted j) n → Fits n

-- ---- the load

abbrev pub nothing : ℕ → ℕ
nothing k = 0

abbrev pub NoTexts : ℕ → List ℕ → Type 0
NoTexts k text = ⊥

-- each node gets the literals of the program; the first world has no other text
abbrev pub Literals : Parts → ℕ → List ℕ → Type 0
Literals p k text = Has p.literals text

-- The load of a program onto nodes of these sizes finds no room at node k: it begins with nothing held and no text.
abbrev pub LoadFull : Parts → List NodeSpec → ℕ → Part → ℕ → ℕ → Type 0
LoadFull p specs = FullAt specs nothing (held p (world_first (length specs) p)) NoTexts (Literals p)
