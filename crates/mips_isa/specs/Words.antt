-- Instructions and their words (Kane, MIPS RISC Architecture, appendix A: "CPU Instruction Formats", the page of each instruction, and
-- "CPU Instruction Opcode Bit Encoding"). A field that an instruction doesn't use is zero.
use Rattle.std.specs.Prelude.{ℕ, ◌+◌, ◌-◌, ◌*◌, ◌/◌, ◌%◌, ◌^◌}
use Rattle.mips_isa.specs.declared.instr.Shift.{Shift}
use Rattle.mips_isa.specs.declared.instr.Shift.TheVariants.{Sll, Srl, Sra}
use Rattle.mips_isa.specs.declared.instr.VariableShift.{VariableShift}
use Rattle.mips_isa.specs.declared.instr.VariableShift.TheVariants.{Sllv, Srlv, Srav}
use Rattle.mips_isa.specs.declared.instr.Operation.{Operation}
use Rattle.mips_isa.specs.declared.instr.Operation.TheVariants.{Add, Addu, Sub, Subu, And, Or, Xor, Nor, Slt, Sltu}
use Rattle.mips_isa.specs.declared.instr.HiLoOperation.{HiLoOperation}
use Rattle.mips_isa.specs.declared.instr.HiLoOperation.TheVariants.{Mult, Multu, Div, Divu}
use Rattle.mips_isa.specs.declared.instr.MoveFrom.{MoveFrom}
use Rattle.mips_isa.specs.declared.instr.MoveFrom.TheVariants.{Mfhi, Mflo}
use Rattle.mips_isa.specs.declared.instr.MoveTo.{MoveTo}
use Rattle.mips_isa.specs.declared.instr.MoveTo.TheVariants.{Mthi, Mtlo}
use Rattle.mips_isa.specs.declared.instr.Branch.{Branch}
use Rattle.mips_isa.specs.declared.instr.Branch.TheVariants.{Beq, Bne}
use Rattle.mips_isa.specs.declared.instr.ZeroBranch.{ZeroBranch}
use Rattle.mips_isa.specs.declared.instr.ZeroBranch.TheVariants.{Bltz, Bgez, Blez, Bgtz}
use Rattle.mips_isa.specs.declared.instr.Immediate.{Immediate}
use Rattle.mips_isa.specs.declared.instr.Immediate.TheVariants.{Addi, Addiu, Slti, Sltiu, Andi, Ori, Xori}
use Rattle.mips_isa.specs.declared.instr.Load.{Load}
use Rattle.mips_isa.specs.declared.instr.Load.TheVariants.{Lb, Lh, Lw, Lbu, Lhu}
use Rattle.mips_isa.specs.declared.instr.Store.{Store}
use Rattle.mips_isa.specs.declared.instr.Store.TheVariants.{Sb, Sh, Sw}
use Rattle.mips_isa.specs.declared.instr.Instr.{Instr}
use Rattle.mips_isa.specs.declared.instr.Instr.TheVariants.{OnShift, OnVariableShift, OnRegisters, OnHiLo, ReadHiLo, WriteHiLo, Jr}
use Rattle.mips_isa.specs.declared.instr.Instr.TheVariants.{Jalr, Syscall, J, Jal, BranchIf, BranchOnZero, OnImmediate, Lui}
use Rattle.mips_isa.specs.declared.instr.Instr.TheVariants.{LoadFrom, StoreTo}

-- ---- the formats

-- bits high to low of a number
abbrev pub bits : (high low n : ℕ) → ℕ
bits high low n = n / 2 ^ low % 2 ^ (high - low + 1)

-- R: op 31..26, which is 0, rs 25..21, rt 20..16, rd 15..11, shamt 10..6, funct 5..0
abbrev pub r_word : (rs rt rd shamt funct : ℕ) → ℕ
r_word rs rt rd shamt funct = 2 ^ 21 * rs + 2 ^ 16 * rt + 2 ^ 11 * rd + 2 ^ 6 * shamt + funct

-- I: op 31..26, rs 25..21, rt 20..16, the number 15..0
abbrev pub i_word : (op rs rt number : ℕ) → ℕ
i_word op rs rt number = 2 ^ 26 * op + 2 ^ 21 * rs + 2 ^ 16 * rt + number

-- J: op 31..26, the target 25..0
abbrev pub j_word : (op target : ℕ) → ℕ
j_word op target = 2 ^ 26 * op + target

-- ---- op 00, SPECIAL: the functs

abbrev pub shift_funct : Shift → ℕ
shift_funct Sll = 0x00
shift_funct Srl = 0x02
shift_funct Sra = 0x03

abbrev pub variable_shift_funct : VariableShift → ℕ
variable_shift_funct Sllv = 0x04
variable_shift_funct Srlv = 0x06
variable_shift_funct Srav = 0x07

abbrev pub operation_funct : Operation → ℕ
operation_funct Add = 0x20
operation_funct Addu = 0x21
operation_funct Sub = 0x22
operation_funct Subu = 0x23
operation_funct And = 0x24
operation_funct Or = 0x25
operation_funct Xor = 0x26
operation_funct Nor = 0x27
operation_funct Slt = 0x2A
operation_funct Sltu = 0x2B

abbrev pub hilo_funct : HiLoOperation → ℕ
hilo_funct Mult = 0x18
hilo_funct Multu = 0x19
hilo_funct Div = 0x1A
hilo_funct Divu = 0x1B

abbrev pub from_funct : MoveFrom → ℕ
from_funct Mfhi = 0x10
from_funct Mflo = 0x12

abbrev pub to_funct : MoveTo → ℕ
to_funct Mthi = 0x11
to_funct Mtlo = 0x13

-- ---- the ops of I-type instructions

abbrev pub branch_op : Branch → ℕ
branch_op Beq = 0x04
branch_op Bne = 0x05

-- op 01, BCOND, tells its rows by the number at rt; in the others that is zero
abbrev pub zero_branch_op_rt : ZeroBranch → ℕ × ℕ
zero_branch_op_rt Bltz = (0x01, 0)
zero_branch_op_rt Bgez = (0x01, 1)
zero_branch_op_rt Blez = (0x06, 0)
zero_branch_op_rt Bgtz = (0x07, 0)

abbrev pub immediate_op : Immediate → ℕ
immediate_op Addi = 0x08
immediate_op Addiu = 0x09
immediate_op Slti = 0x0A
immediate_op Sltiu = 0x0B
immediate_op Andi = 0x0C
immediate_op Ori = 0x0D
immediate_op Xori = 0x0E

abbrev pub load_op : Load → ℕ
load_op Lb = 0x20
load_op Lh = 0x21
load_op Lw = 0x23
load_op Lbu = 0x24
load_op Lhu = 0x25

abbrev pub store_op : Store → ℕ
store_op Sb = 0x28
store_op Sh = 0x29
store_op Sw = 0x2B

-- ---- the table

abbrev pub word_of : Instr → ℕ
word_of (OnShift shift rd rt amount) = r_word 0 rt.number rd.number amount.bits (shift_funct shift)
word_of (OnVariableShift shift rd rt rs) = r_word rs.number rt.number rd.number 0 (variable_shift_funct shift)
word_of (OnRegisters operation rd rs rt) = r_word rs.number rt.number rd.number 0 (operation_funct operation)
word_of (OnHiLo operation rs rt) = r_word rs.number rt.number 0 0 (hilo_funct operation)
word_of (ReadHiLo from rd) = r_word 0 0 rd.number 0 (from_funct from)
word_of (WriteHiLo to rs) = r_word rs.number 0 0 0 (to_funct to)
word_of (Jr rs) = r_word rs.number 0 0 0 0x08
word_of (Jalr link) = r_word link.rs.number 0 link.rd.number 0 0x09
word_of Syscall = 0x0000000C
word_of (J target) = j_word 0x02 target.words
word_of (Jal target) = j_word 0x03 target.words
word_of (BranchIf branch rs rt offset) = i_word (branch_op branch) rs.number rt.number offset.bits
word_of (BranchOnZero branch rs offset) = let o = zero_branch_op_rt branch in i_word o.0 rs.number o.1 offset.bits
word_of (OnImmediate operation rt rs number) = i_word (immediate_op operation) rs.number rt.number number.bits
word_of (Lui rt number) = i_word 0x0F 0 rt.number number.bits
word_of (LoadFrom load rt rs offset) = i_word (load_op load) rs.number rt.number offset.bits
word_of (StoreTo store rt rs offset) = i_word (store_op store) rs.number rt.number offset.bits
