-- What a node lacks for blocks and values that come to it.
use Rattle.std.specs.Prelude.{◌≡◌, ℕ, ◌≤◌, List}
use Rattle.ec_world.specs.Held.{Lacks}
use Rattle.ec_world.specs.declared.room.Lack.{Lack}
use Rattle.ec_world.specs.declared.room.Needs.{Needs}
use Rattle.ec_objects.specs.Values.{TextsFit}
use Rattle.ec_things.specs.Store.{Store}
use Rattle.ec_things.specs.Texts.{NewBytes}
use Rattle.ec_world.specs.Group.{Has}
use Rattle.ec_world.specs.declared.value.Value.{Value}
use Rattle.ec_world.specs.declared.value.Value.TheVariants.{Str}

-- what is needed of a node for so many blocks and for texts with so many new bytes, and what it has free
abbrev pub needs_at : Store → ℕ → ℕ → Needs
needs_at s blocks bytes = record { blocks = blocks; free_blocks = s.free; bytes = bytes; free_bytes = s.text_free }

-- The node of this number lacks blocks, or room for the texts of these values, as a lack says.
pub record LacksRoom (s : Store) (number blocks : ℕ) (values : List Value) (lack : Lack) : Type 0 where
  pub node : lack.node ≡ number
  pub bytes : ℕ
  pub new : NewBytes (λ text. Has values (Str text)) s bytes
  pub lacks : Lacks lack.part (needs_at s blocks bytes) lack.need lack.free

-- the node has room for all
pub record HasRoomForAll (s : Store) (blocks : ℕ) (values : List Value) : Type 0 where
  pub blocks_fit : blocks ≤ s.free
  pub texts_fit : TextsFit s values
