-- A number in two parts, as the assembler's %hi and %lo.
use Rattle.std.specs.Prelude.{ℕ, ◌+◌, ◌/◌, ◌%◌, ◌^◌}

-- ADDI adds the low part as a signed number, so the high part is that of a number greater by half of 2 ^ 12
abbrev pub high_of : ℕ → ℕ
high_of n = (n + 2 ^ 11) / 2 ^ 12 % 2 ^ 20

abbrev pub low_of : ℕ → ℕ
low_of n = n % 2 ^ 12
