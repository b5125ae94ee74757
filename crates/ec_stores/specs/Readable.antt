-- What native code finds at a node: numbers of 32 bits, few blocks and constants, and the words of its store in the bytes of its memory.
use Rattle.std.specs.Prelude.{◌≡◌, ℕ, ◌<◌, ◌^◌, List, Some}
use Rattle.ec_base.specs.Bytes.{Bytes}
use Rattle.ec_memory.specs.Words.{HasWord, block_word_at, global_word_at, word_in}
use Rattle.ec_world.specs.declared.key.Key.{Key}
use Rattle.ec_stores.specs.Memory.{number_of}
use Rattle.ec_things.specs.Store.{Owned, Store}
use Rattle.ec_world.specs.Group.{Has}

-- Local references and places of texts have 32 bits, the blocks of owners are among 65,536, and constants among 1,048,576.
pub record IsSmall (s : Store) : Type 0 where
  pub locals : (i oid : ℕ) → s.local i ≡ Some oid → i < 2 ^ 32
  pub texts : (i : ℕ) (text : List ℕ) → s.text i ≡ Some text → i < 2 ^ 32
  pub blocks : (key : Key) (r : Owned) (b : ℕ) → s.row key ≡ Some r → Has r.blocks b → b < 65536
  pub constants : (i w : ℕ) → s.global i ≡ Some w → i < 1048576

-- The words of a store stand in these bytes: each word of an owner's block is there; and word i of block b, and constant i, are what the
-- node's kind reads at their addresses.
pub record StandsIn (s : Store) (bytes : Bytes) : Type 0 where
  pub there : (key : Key) (r : Owned) (b i : ℕ) → s.row key ≡ Some r → Has r.blocks b → i < 128 → HasWord bytes (block_word_at b i)
  pub words : (b i : ℕ) → s.word b i ≡ word_in (number_of s.kind) bytes (block_word_at b i)
  pub constants : (i : ℕ) → s.global i ≡ word_in (number_of s.kind) bytes (global_word_at i)
