-- Words of four bytes in a memory, and where the words of blocks and globals lie.
use Rattle.std.specs.Prelude.{ℕ, ◌+◌, ◌*◌, List, Option, IsSome}
use Rattle.std.specs.Option.{option_map}
use Rattle.ec_base.specs.Bytes.{Bytes, bytes_from}

-- the four bytes of a word are there
abbrev pub HasWord : Bytes → ℕ → Type 0
HasWord m at = IsSome (bytes_from m at 4)

-- the word at an address, where its four bytes are there; `number n` reads a number from n bytes, in a byte order
abbrev pub word_in : (ℕ → List ℕ → ℕ) → Bytes → ℕ → Option ℕ
word_in number m at = option_map (number 4) (bytes_from m at 4)

-- word i of block b, of its 128
abbrev pub block_word_at : ℕ → ℕ → ℕ
block_word_at b i = 0x10000000 + 512 * b + 4 * i

-- word i of the globals
abbrev pub global_word_at : ℕ → ℕ
global_word_at i = 0x20000000 + 4 * i
