-- Lists of blocks, which are taken, written and given back.
use Rattle.std.specs.Prelude.{◌≡◌, ℕ, ◌+◌, ◌/◌, ◌%◌, ◌<◌, ◌⊎◌, List, ◌++◌, length, Some, slice_get}
use Rattle.ec_world.specs.Group.{Has}
use Rattle.ec_world.specs.declared.node.Kind.{Kind}
use Rattle.ec_memory.specs.Store.{IsWhole}
use Rattle.ec_memory.specs.Words.{block_word_at}
use Rattle.ec_stores.specs.Memory.{held, kind_of, word_at, SameMemory}
use Rattle.ec_stores.specs.declared.memory.NodeMemory.{NodeMemory}

-- each number once
abbrev pub IsOnce : List ℕ → Type 0
IsOnce xs = (i j b : ℕ) → slice_get xs i ≡ Some b → slice_get xs j ≡ Some b → i ≡ j

-- these blocks have been taken, and no byte has changed
pub record TakesList (m m' : NodeMemory) (blocks : List ℕ) : Type 0 where
  pub kind : kind_of m' ≡ kind_of m
  pub free : (held m).free ≡ blocks ++ (held m').free
  pub links : (held m').links ≡ (held m).links
  pub bytes : (held m').blocks ≡ (held m).blocks
  pub globals : (held m').globals ≡ (held m).globals

-- some blocks have been taken
abbrev pub TakesSome : NodeMemory → NodeMemory → Type 0
TakesSome m m' = (blocks : List ℕ) × TakesList m m' blocks

-- the first n words of these blocks are those given, and every other word is as it was
pub record WrittenList (kind : Kind) (m m' : NodeMemory) (blocks given : List ℕ) (n : ℕ) : Type 0 where
  pub same : SameMemory m m'
  pub inside : (i w b : ℕ) → i < n → slice_get given i ≡ Some w → slice_get blocks (i / 128) ≡ Some b →
      word_at kind m' (block_word_at b (i % 128)) ≡ Some w
  pub outside : (at : ℕ) → at % 4 ≡ 0 →
      ((i b : ℕ) → i < n → slice_get blocks (i / 128) ≡ Some b → at ≡ block_word_at b (i % 128) → ⊥) →
      word_at kind m' at ≡ word_at kind m at

-- these blocks have been given back, and no byte has changed
pub record GivesList (m m' : NodeMemory) (blocks : List ℕ) : Type 0 where
  pub kind : kind_of m' ≡ kind_of m
  pub whole : IsWhole (held m')
  pub these : (b : ℕ) → Has (held m').free b → Has blocks b ⊎ Has (held m).free b
  pub many : length (held m').free ≡ length (held m).free + length blocks
  pub sized : length (held m').links ≡ length (held m).links
  pub bytes : (held m').blocks ≡ (held m).blocks
  pub globals : (held m').globals ≡ (held m).globals

-- blocks have been taken, and begin with the words that were given
pub record FilledList (m m' : NodeMemory) (blocks given : List ℕ) : Type 0 where
  pub between : NodeMemory
  pub takes : TakesList m between blocks
  pub written : WrittenList (kind_of between) between m' blocks given (length given)
