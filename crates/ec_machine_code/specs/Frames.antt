-- Where the words of a frame and of an own object lie. A frame is one block of 128 words: words 0 to 7 are its headings, words 8
-- to 27 keep registers while the activation rests, and words 28 to 127 are the slots.
use Rattle.std.specs.Prelude.{ℕ, ◌+◌, ◌*◌}
use Rattle.ec_machine_code.specs.declared.homes.Home.{Home}
use Rattle.ec_machine_code.specs.declared.homes.Home.TheVariants.{Register, Slot}
use Rattle.ec_memory.specs.Words.{block_word_at}

-- a node has at most so many blocks, of so many words each
abbrev pub most_blocks : ℕ
most_blocks = 65536

abbrev pub block_words : ℕ
block_words = 128

-- where block b begins
abbrev pub block_at : ℕ → ℕ
block_at b = 0x10000000 + 512 * b

-- the word of a frame that is the node's own reference to the activation's own object
abbrev pub own_reference : ℕ
own_reference = 6

abbrev pub first_saved : ℕ
first_saved = 8

abbrev pub first_slot : ℕ
first_slot = 28

-- how many slots a frame has
abbrev pub slots : ℕ
slots = 100

-- the word of a frame that a home has while the activation rests
abbrev pub home_word : Home → ℕ
home_word (Slot n) = first_slot + n
home_word (Register k) = first_saved + k

-- the address of a slot of the frame at block f
abbrev pub slot_at : ℕ → ℕ → ℕ
slot_at f n = block_word_at f (first_slot + n)

-- the address of a field of the own object, which begins at a block
abbrev pub field_at : ℕ → ℕ → ℕ
field_at own i = block_word_at own i
