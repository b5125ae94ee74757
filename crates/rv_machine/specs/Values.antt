-- What the operations of RV32IM compute, on words as numbers from 0 to 2^32 - 1 (RISC-V unprivileged manual: chapter "RV32I Base
-- Integer Instruction Set", and chapter '"M" Standard Extension for Integer Multiplication and Division').
use Rattle.std.specs.Prelude.{ℕ, ◌+◌, ◌-◌, ◌*◌, ◌/◌, ◌%◌, ◌^◌, Bool, not, ◌==◌, nat_lt, if◌then◌else◌, bit_and, bit_or, bit_xor, ℤ}
use Rattle.std.specs.Prelude.{int_lt, int_div, int_rem}
use Rattle.std.specs.Int.{w32, cast_signed, cast_unsigned, from_bool, int_shr}
use Rattle.rv_isa.specs.declared.instr.Branch.{Branch}
use Rattle.rv_isa.specs.declared.instr.Branch.TheVariants.{Beq, Bne, Blt, Bge, Bltu, Bgeu}
use Rattle.rv_isa.specs.declared.instr.Load.{Load}
use Rattle.rv_isa.specs.declared.instr.Load.TheVariants.{Lb, Lh, Lw, Lbu, Lhu}
use Rattle.rv_isa.specs.declared.instr.Store.{Store}
use Rattle.rv_isa.specs.declared.instr.Store.TheVariants.{Sb, Sh, Sw}
use Rattle.rv_isa.specs.declared.instr.Immediate.{Immediate}
use Rattle.rv_isa.specs.declared.instr.Immediate.TheVariants.{Addi, Slti, Sltiu, Xori, Ori, Andi}
use Rattle.rv_isa.specs.declared.instr.Shift.{Shift}
use Rattle.rv_isa.specs.declared.instr.Shift.TheVariants.{Slli, Srli, Srai}
use Rattle.rv_isa.specs.declared.instr.Operation.{Operation}
use Rattle.rv_isa.specs.declared.instr.Operation.TheVariants.{Add, Sub, Sll, Slt, Sltu, Xor, Srl, Sra, Or, And, Mul, Mulh, Mulhsu}
use Rattle.rv_isa.specs.declared.instr.Operation.TheVariants.{Mulhu, Div, Divu, Rem, Remu}

-- ---- words as numbers

-- sums and differences wrap
abbrev pub plus : ℕ → ℕ → ℕ
plus a b = (a + b) % 2 ^ 32

abbrev pub minus : ℕ → ℕ → ℕ
minus a b = (a + (2 ^ 32 - b)) % 2 ^ 32

-- a number of k bits in two's complement, at 32 bits
abbrev pub extended : (k n : ℕ) → ℕ
extended k n = if nat_lt n (2 ^ (k - 1)) then n else n + (2 ^ 32 - 2 ^ k)

-- the signed number of a word, and the word of a signed number
abbrev pub signed : ℕ → ℤ
signed a = cast_signed w32 a

abbrev pub unsigned : ℤ → ℕ
unsigned z = cast_unsigned w32 z

abbrev pub is_less : ℕ → ℕ → Bool
is_less a b = int_lt (signed a) (signed b)

-- ---- shifts

abbrev pub shifted_left : ℕ → ℕ → ℕ
shifted_left a k = a * 2 ^ k % 2 ^ 32

abbrev pub shifted_right : ℕ → ℕ → ℕ
shifted_right a k = a / 2 ^ k

-- the signed number divided by 2^k, rounded down
abbrev pub shifted_right_signed : ℕ → ℕ → ℕ
shifted_right_signed a k = unsigned (int_shr (signed a) k)

-- ---- products and quotients

-- a word at 64 bits, as a signed number
abbrev pub wide : ℕ → ℕ
wide a = if nat_lt a (2 ^ 31) then a else a + (2 ^ 64 - 2 ^ 32)

-- the upper word of a product of 64 bits
abbrev pub upper : ℕ → ℕ → ℕ
upper a b = a * b % 2 ^ 64 / 2 ^ 32

-- signed quotients are rounded towards zero
abbrev pub quotient : ℕ → ℕ → ℕ
quotient a b = if b == 0 then 2 ^ 32 - 1 else unsigned (int_div (signed a) (signed b))

abbrev pub remainder : ℕ → ℕ → ℕ
remainder a b = if b == 0 then a else unsigned (int_rem (signed a) (signed b))

abbrev pub quotient_unsigned : ℕ → ℕ → ℕ
quotient_unsigned a b = if b == 0 then 2 ^ 32 - 1 else a / b

abbrev pub remainder_unsigned : ℕ → ℕ → ℕ
remainder_unsigned a b = if b == 0 then a else a % b

-- ---- the rows: a is what rs1 holds, b what rs2 holds

-- section "Integer Register-Immediate Instructions": n is the immediate, sign-extended
abbrev pub immediate_value : Immediate → ℕ → ℕ → ℕ
immediate_value Addi a n = plus a n
immediate_value Slti a n = from_bool (is_less a n)
immediate_value Sltiu a n = from_bool (nat_lt a n)
immediate_value Xori a n = bit_xor a n
immediate_value Ori a n = bit_or a n
immediate_value Andi a n = bit_and a n

abbrev pub shift_value : Shift → ℕ → ℕ → ℕ
shift_value Slli a k = shifted_left a k
shift_value Srli a k = shifted_right a k
shift_value Srai a k = shifted_right_signed a k

-- section "Integer Register-Register Operations": shifts go by the lower five bits of rs2. Sections "Multiplication
-- Operations" and "Division Operations"
abbrev pub operation_value : Operation → ℕ → ℕ → ℕ
operation_value Add a b = plus a b
operation_value Sub a b = minus a b
operation_value Sll a b = shifted_left a (b % 2 ^ 5)
operation_value Slt a b = from_bool (is_less a b)
operation_value Sltu a b = from_bool (nat_lt a b)
operation_value Xor a b = bit_xor a b
operation_value Srl a b = shifted_right a (b % 2 ^ 5)
operation_value Sra a b = shifted_right_signed a (b % 2 ^ 5)
operation_value Or a b = bit_or a b
operation_value And a b = bit_and a b
operation_value Mul a b = a * b % 2 ^ 32
operation_value Mulh a b = upper (wide a) (wide b)
operation_value Mulhsu a b = upper (wide a) b
operation_value Mulhu a b = upper a b
operation_value Div a b = quotient a b
operation_value Divu a b = quotient_unsigned a b
operation_value Rem a b = remainder a b
operation_value Remu a b = remainder_unsigned a b

-- section "Conditional Branches": when a branch is taken
abbrev pub is_taken : Branch → ℕ → ℕ → Bool
is_taken Beq a b = a == b
is_taken Bne a b = not (a == b)
is_taken Blt a b = is_less a b
is_taken Bge a b = not (is_less a b)
is_taken Bltu a b = nat_lt a b
is_taken Bgeu a b = not (nat_lt a b)

-- section "Load and Store Instructions": how many bytes a load reads, and what it makes of their number n
abbrev pub load_size : Load → ℕ
load_size Lb = 1
load_size Lh = 2
load_size Lw = 4
load_size Lbu = 1
load_size Lhu = 2

abbrev pub load_value : Load → ℕ → ℕ
load_value Lb n = extended 8 n
load_value Lh n = extended 16 n
load_value Lw n = n
load_value Lbu n = n
load_value Lhu n = n

-- how many bytes a store writes, the lowest of rs2
abbrev pub store_size : Store → ℕ
store_size Sb = 1
store_size Sh = 2
store_size Sw = 4
