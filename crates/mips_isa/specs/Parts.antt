-- A number in two parts, as the assembler's %hi and %lo.
use Rattle.std.specs.Prelude.{ℕ, ◌+◌, ◌/◌, ◌%◌, ◌^◌}

-- ADDIU, loads and stores add the low half as a signed number, so the high half is that of a number greater by half of 2 ^ 16
abbrev pub high_of : ℕ → ℕ
high_of n = (n + 2 ^ 15) / 2 ^ 16 % 2 ^ 16

abbrev pub low_of : ℕ → ℕ
low_of n = n % 2 ^ 16
