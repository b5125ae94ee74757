-- What the operations of MIPS I compute, on words as numbers from 0 to 2^32 - 1 (Kane, MIPS RISC Architecture, chapter 3 and
-- appendix A).
use Rattle.std.specs.Prelude.{ℕ, ◌+◌, ◌-◌, ◌*◌, ◌/◌, ◌%◌, ◌^◌, Bool, false, not, ◌==◌, ◌&&◌, ◌||◌, nat_lt, if◌then◌else◌, bit_and}
use Rattle.std.specs.Prelude.{bit_or, bit_xor, ℤ, pos, negsuc, ◌+ℤ◌, ◌-ℤ◌, int_lt, int_le, int_div, int_rem}
use Rattle.std.specs.Int.{w32, cast_signed, cast_unsigned, from_bool, int_shr}
use Rattle.mips_isa.specs.declared.instr.Shift.{Shift}
use Rattle.mips_isa.specs.declared.instr.Shift.TheVariants.{Sll, Srl, Sra}
use Rattle.mips_isa.specs.declared.instr.VariableShift.{VariableShift}
use Rattle.mips_isa.specs.declared.instr.VariableShift.TheVariants.{Sllv, Srlv, Srav}
use Rattle.mips_isa.specs.declared.instr.Operation.{Operation}
use Rattle.mips_isa.specs.declared.instr.Operation.TheVariants.{Add, Addu, Sub, Subu, And, Or, Xor, Nor, Slt, Sltu}
use Rattle.mips_isa.specs.declared.instr.HiLoOperation.{HiLoOperation}
use Rattle.mips_isa.specs.declared.instr.HiLoOperation.TheVariants.{Mult, Multu, Div, Divu}
use Rattle.mips_isa.specs.declared.instr.Branch.{Branch}
use Rattle.mips_isa.specs.declared.instr.Branch.TheVariants.{Beq, Bne}
use Rattle.mips_isa.specs.declared.instr.ZeroBranch.{ZeroBranch}
use Rattle.mips_isa.specs.declared.instr.ZeroBranch.TheVariants.{Bltz, Bgez, Blez, Bgtz}
use Rattle.mips_isa.specs.declared.instr.Immediate.{Immediate}
use Rattle.mips_isa.specs.declared.instr.Immediate.TheVariants.{Addi, Addiu, Slti, Sltiu, Andi, Ori, Xori}
use Rattle.mips_isa.specs.declared.instr.Load.{Load}
use Rattle.mips_isa.specs.declared.instr.Load.TheVariants.{Lb, Lh, Lw, Lbu, Lhu}
use Rattle.mips_isa.specs.declared.instr.Store.{Store}
use Rattle.mips_isa.specs.declared.instr.Store.TheVariants.{Sb, Sh, Sw}

-- ---- words as numbers

-- sums and differences wrap
abbrev pub plus : ℕ → ℕ → ℕ
plus a b = (a + b) % 2 ^ 32

abbrev pub minus : ℕ → ℕ → ℕ
minus a b = (a + (2 ^ 32 - b)) % 2 ^ 32

-- a number of k bits in two's complement, at 32 bits
abbrev pub extended : (k n : ℕ) → ℕ
extended k n = if nat_lt n (2 ^ (k - 1)) then n else n + (2 ^ 32 - 2 ^ k)

-- the signed number of a word, and the word of a signed number
abbrev pub signed : ℕ → ℤ
signed a = cast_signed w32 a

abbrev pub unsigned : ℤ → ℕ
unsigned z = cast_unsigned w32 z

abbrev pub is_less : ℕ → ℕ → Bool
is_less a b = int_lt (signed a) (signed b)

-- no word stands for this number: it overflows
abbrev pub is_beyond : ℤ → Bool
is_beyond z = int_lt z (negsuc (2 ^ 31 - 1)) || int_lt (pos (2 ^ 31 - 1)) z

-- ---- shifts

abbrev pub shifted_left : ℕ → ℕ → ℕ
shifted_left a k = a * 2 ^ k % 2 ^ 32

abbrev pub shifted_right : ℕ → ℕ → ℕ
shifted_right a k = a / 2 ^ k

-- the signed number divided by 2^k, rounded down
abbrev pub shifted_right_signed : ℕ → ℕ → ℕ
shifted_right_signed a k = unsigned (int_shr (signed a) k)

-- ---- products and quotients

-- a word at 64 bits, as a signed number
abbrev pub wide : ℕ → ℕ
wide a = if nat_lt a (2 ^ 31) then a else a + (2 ^ 64 - 2 ^ 32)

-- the upper word of a product of 64 bits
abbrev pub upper : ℕ → ℕ → ℕ
upper a b = a * b % 2 ^ 64 / 2 ^ 32

-- signed quotients are rounded towards zero
abbrev pub quotient : ℕ → ℕ → ℕ
quotient a b = unsigned (int_div (signed a) (signed b))

abbrev pub remainder : ℕ → ℕ → ℕ
remainder a b = unsigned (int_rem (signed a) (signed b))

-- ---- the rows: a is what rs holds, b what rt holds

-- SLL, SRL, SRA: b shifted by shamt
abbrev pub shift_value : Shift → ℕ → ℕ → ℕ
shift_value Sll b k = shifted_left b k
shift_value Srl b k = shifted_right b k
shift_value Sra b k = shifted_right_signed b k

-- SLLV, SRLV, SRAV: b shifted by the low five bits of a
abbrev pub variable_shift_value : VariableShift → ℕ → ℕ → ℕ
variable_shift_value Sllv b a = shifted_left b (a % 2 ^ 5)
variable_shift_value Srlv b a = shifted_right b (a % 2 ^ 5)
variable_shift_value Srav b a = shifted_right_signed b (a % 2 ^ 5)

abbrev pub operation_value : Operation → ℕ → ℕ → ℕ
operation_value Add a b = plus a b
operation_value Addu a b = plus a b
operation_value Sub a b = minus a b
operation_value Subu a b = minus a b
operation_value And a b = bit_and a b
operation_value Or a b = bit_or a b
operation_value Xor a b = bit_xor a b
operation_value Nor a b = 2 ^ 32 - 1 - bit_or a b
operation_value Slt a b = from_bool (is_less a b)
operation_value Sltu a b = from_bool (nat_lt a b)

-- ADD and SUB trap where the signed result overflows
abbrev pub operation_overflows : Operation → ℕ → ℕ → Bool
operation_overflows Add a b = is_beyond (signed a +ℤ signed b)
operation_overflows Sub a b = is_beyond (signed a -ℤ signed b)
operation_overflows _ a b = false

-- the sixteen bits: sign-extended, but in ANDI, ORI and XORI extended with zeros
abbrev pub immediate_number : Immediate → ℕ → ℕ
immediate_number Addi n = extended 16 n
immediate_number Addiu n = extended 16 n
immediate_number Slti n = extended 16 n
immediate_number Sltiu n = extended 16 n
immediate_number Andi n = n
immediate_number Ori n = n
immediate_number Xori n = n

-- n is the number, extended
abbrev pub immediate_value : Immediate → ℕ → ℕ → ℕ
immediate_value Addi a n = plus a n
immediate_value Addiu a n = plus a n
immediate_value Slti a n = from_bool (is_less a n)
immediate_value Sltiu a n = from_bool (nat_lt a n)
immediate_value Andi a n = bit_and a n
immediate_value Ori a n = bit_or a n
immediate_value Xori a n = bit_xor a n

-- ADDI traps where the signed sum overflows
abbrev pub immediate_overflows : Immediate → ℕ → ℕ → Bool
immediate_overflows Addi a n = is_beyond (signed a +ℤ signed n)
immediate_overflows _ a n = false

-- what goes to HI: the upper word of the product, or the remainder
abbrev pub hi_value : HiLoOperation → ℕ → ℕ → ℕ
hi_value Mult a b = upper (wide a) (wide b)
hi_value Multu a b = upper a b
hi_value Div a b = remainder a b
hi_value Divu a b = a % b

-- what goes to LO: the lower word of the product, or the quotient
abbrev pub lo_value : HiLoOperation → ℕ → ℕ → ℕ
lo_value Mult a b = a * b % 2 ^ 32
lo_value Multu a b = a * b % 2 ^ 32
lo_value Div a b = quotient a b
lo_value Divu a b = a / b

-- where the manual leaves quotient and remainder undefined, the machine traps
abbrev pub is_undefined : HiLoOperation → ℕ → ℕ → Bool
is_undefined Mult a b = false
is_undefined Multu a b = false
is_undefined Div a b = (b == 0) || ((a == 2 ^ 31) && (b == 2 ^ 32 - 1))
is_undefined Divu a b = b == 0

-- when a branch is taken
abbrev pub is_taken : Branch → ℕ → ℕ → Bool
is_taken Beq a b = a == b
is_taken Bne a b = not (a == b)

abbrev pub is_zero_taken : ZeroBranch → ℕ → Bool
is_zero_taken Bltz a = int_lt (signed a) (pos 0)
is_zero_taken Bgez a = int_le (pos 0) (signed a)
is_zero_taken Blez a = int_le (signed a) (pos 0)
is_zero_taken Bgtz a = int_lt (pos 0) (signed a)

-- how many bytes a load reads, and what it makes of their number n
abbrev pub load_size : Load → ℕ
load_size Lb = 1
load_size Lh = 2
load_size Lw = 4
load_size Lbu = 1
load_size Lhu = 2

abbrev pub load_value : Load → ℕ → ℕ
load_value Lb n = extended 8 n
load_value Lh n = extended 16 n
load_value Lw n = n
load_value Lbu n = n
load_value Lhu n = n

-- how many bytes a store writes, the lowest of rt
abbrev pub store_size : Store → ℕ
store_size Sb = 1
store_size Sh = 2
store_size Sw = 4
