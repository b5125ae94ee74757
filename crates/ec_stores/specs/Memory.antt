-- The memory of a node of either kind, and what a call leaves of it.
use Rattle.std.specs.Prelude.{◌≡◌, ℕ, List, ◌∷◌, length, Option, refl}
use Rattle.std.proofs.Common.{◌∙◌}
use Rattle.byteorder.specs.Endian.{little_number, big_number, little_bytes, big_bytes}
use Rattle.ec_base.specs.Bytes.{Bytes, with_bytes}
use Rattle.ec_world.specs.declared.node.Kind.{Kind}
use Rattle.ec_world.specs.declared.node.Kind.TheVariants.{Riscv, Mips}
use Rattle.ec_memory.specs.Store.{Store, SameLists, IsWhole, same_lists, same_lists_on, store_byte}
use Rattle.ec_memory.specs.Words.{word_in}
use Rattle.ec_stores.specs.declared.memory.NodeMemory.{NodeMemory}
use Rattle.ec_stores.specs.declared.memory.NodeMemory.TheVariants.{Little, Big}

-- the blocks and constants
abbrev pub held : NodeMemory → Store
held (Little s) = s
held (Big s) = s

-- the kind of machines that have this memory
abbrev pub kind_of : NodeMemory → Kind
kind_of (Little s) = Riscv
kind_of (Big s) = Mips

-- the number in the first n bytes of a list: a RISC-V node has the least byte first, a MIPS node the greatest
abbrev pub number_of : Kind → ℕ → List ℕ → ℕ
number_of Riscv = little_number
number_of Mips = big_number

-- the lowest n bytes of a number, in the same order
abbrev pub bytes_of : Kind → ℕ → ℕ → List ℕ
bytes_of Riscv = little_bytes
bytes_of Mips = big_bytes

-- the byte at an address
abbrev pub byte_in : NodeMemory → Bytes
byte_in m = store_byte (held m)

-- the word at an address, as a kind reads it
abbrev pub word_at : Kind → NodeMemory → ℕ → Option ℕ
word_at kind m at = word_in (number_of kind) (byte_in m) at

-- two memories that differ in their bytes alone
pub record SameMemory (m m' : NodeMemory) : Type 0 where
  pub kind : kind_of m' ≡ kind_of m
  pub lists : SameLists (held m) (held m')

pub same_memory : (m : NodeMemory) → SameMemory m m
same_memory m = record { kind = refl; lists = same_lists (held m) }

pub same_memory_on : (a b c : NodeMemory) → SameMemory a b → SameMemory b c → SameMemory a c
same_memory_on a b c p q = record { kind = q.kind ∙ p.kind; lists = same_lists_on (held a) (held b) (held c) p.lists q.lists }

-- the four bytes from an address on are a word's, and every other byte is as it was
abbrev pub WritesAt : Kind → NodeMemory → NodeMemory → ℕ → ℕ → Type 0
WritesAt kind m m' at word = byte_in m' ≡ with_bytes (byte_in m) at (bytes_of kind 4 word)

-- the first free block is taken from a memory of one order, and nothing else changes
pub record TakesFirst (s t : Store) (block : ℕ) : Type 0 where
  pub free : s.free ≡ block ∷ t.free
  pub links : t.links ≡ s.links
  pub blocks : t.blocks ≡ s.blocks
  pub globals : t.globals ≡ s.globals

-- a block becomes the first free one, and nothing else that is read changes
pub record GivesFirst (s t : Store) (block : ℕ) : Type 0 where
  pub whole : IsWhole t
  pub free : t.free ≡ block ∷ s.free
  pub sized : length t.links ≡ length s.links
  pub blocks : t.blocks ≡ s.blocks
  pub globals : t.globals ≡ s.globals

-- a free block is taken, and nothing else changes
pub record TakesOne (m m' : NodeMemory) (block : ℕ) : Type 0 where
  pub kind : kind_of m' ≡ kind_of m
  pub free : (held m).free ≡ block ∷ (held m').free
  pub links : (held m').links ≡ (held m).links
  pub blocks : (held m').blocks ≡ (held m).blocks
  pub globals : (held m').globals ≡ (held m).globals

-- a block becomes free, and nothing else that is read changes
pub record GivesOne (m m' : NodeMemory) (block : ℕ) : Type 0 where
  pub kind : kind_of m' ≡ kind_of m
  pub whole : IsWhole (held m')
  pub free : (held m').free ≡ block ∷ (held m).free
  pub sized : length (held m').links ≡ length (held m).links
  pub blocks : (held m').blocks ≡ (held m).blocks
  pub globals : (held m').globals ≡ (held m).globals
