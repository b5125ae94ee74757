-- Where code lies: its words stand from 0x00400000 on, four bytes each.
use Rattle.std.specs.Prelude.{ℕ, ◌+◌, ◌-◌, ◌*◌, ◌/◌, ◌%◌, ◌==◌, ◌&&◌, nat_le, nat_lt, List, length, slice_index, Option, Some, None}
use Rattle.std.specs.Prelude.{if◌then◌else◌}

abbrev pub code_base : ℕ
code_base = 0x00400000

-- the place of word i
abbrev pub pc_of : ℕ → ℕ
pc_of i = code_base + 4 * i

-- the word at a place, where a word of the code begins there
abbrev pub word_at : List ℕ → ℕ → Option ℕ
word_at code pc =
    let i = (pc - code_base) / 4 in
    if nat_le code_base pc && (pc % 4 == 0) && nat_lt i (length code) then Some (slice_index code i) else None
