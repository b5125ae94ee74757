-- Instructions and their words (RISC-V unprivileged manual: chapter "RV32I Base Integer Instruction Set", chapter '"M" Standard
-- Extension for Integer Multiplication and Division', and chapter "RV32/64G Instruction Set Listings").
use Rattle.std.specs.Prelude.{ℕ, ◌+◌, ◌-◌, ◌*◌, ◌/◌, ◌%◌, ◌^◌}
use Rattle.rv_isa.specs.declared.instr.Branch.{Branch}
use Rattle.rv_isa.specs.declared.instr.Branch.TheVariants.{Beq, Bne, Blt, Bge, Bltu, Bgeu}
use Rattle.rv_isa.specs.declared.instr.Load.{Load}
use Rattle.rv_isa.specs.declared.instr.Load.TheVariants.{Lb, Lh, Lw, Lbu, Lhu}
use Rattle.rv_isa.specs.declared.instr.Store.{Store}
use Rattle.rv_isa.specs.declared.instr.Store.TheVariants.{Sb, Sh, Sw}
use Rattle.rv_isa.specs.declared.instr.Immediate.{Immediate}
use Rattle.rv_isa.specs.declared.instr.Immediate.TheVariants.{Addi, Slti, Sltiu, Xori, Ori, Andi}
use Rattle.rv_isa.specs.declared.instr.Shift.{Shift}
use Rattle.rv_isa.specs.declared.instr.Shift.TheVariants.{Slli, Srli, Srai}
use Rattle.rv_isa.specs.declared.instr.Operation.{Operation}
use Rattle.rv_isa.specs.declared.instr.Operation.TheVariants.{Add, Sub, Sll, Slt, Sltu, Xor, Srl, Sra, Or, And, Mul, Mulh, Mulhsu}
use Rattle.rv_isa.specs.declared.instr.Operation.TheVariants.{Mulhu, Div, Divu, Rem, Remu}
use Rattle.rv_isa.specs.declared.instr.Instr.{Instr}
use Rattle.rv_isa.specs.declared.instr.Instr.TheVariants.{Lui, Auipc, Jal, Jalr, BranchIf, LoadFrom, StoreTo, OnImmediate, OnShift}
use Rattle.rv_isa.specs.declared.instr.Instr.TheVariants.{OnRegisters, Ecall}

-- ---- the formats (section "Base Instruction Formats"; section "Immediate Encoding Variants")

-- bits high to low of a number
abbrev pub bits : (high low n : ℕ) → ℕ
bits high low n = n / 2 ^ low % 2 ^ (high - low + 1)

-- R: opcode 6..0, rd 11..7, funct3 14..12, rs1 19..15, rs2 24..20, funct7 31..25
abbrev pub r_word : (opcode rd funct3 rs1 rs2 funct7 : ℕ) → ℕ
r_word opcode rd funct3 rs1 rs2 funct7 =
    opcode + 2 ^ 7 * rd + 2 ^ 12 * funct3 + 2 ^ 15 * rs1 + 2 ^ 20 * rs2 + 2 ^ 25 * funct7

-- I: opcode 6..0, rd 11..7, funct3 14..12, rs1 19..15, the number 31..20
abbrev pub i_word : (opcode rd funct3 rs1 number : ℕ) → ℕ
i_word opcode rd funct3 rs1 number = opcode + 2 ^ 7 * rd + 2 ^ 12 * funct3 + 2 ^ 15 * rs1 + 2 ^ 20 * number

-- S: as R, with the number's bits 4..0 at 11..7 and its bits 11..5 at 31..25
abbrev pub s_word : (opcode funct3 rs1 rs2 number : ℕ) → ℕ
s_word opcode funct3 rs1 rs2 number = r_word opcode (bits 4 0 number) funct3 rs1 rs2 (bits 11 5 number)

-- B: as R, with the offset's bits 4..1 at 11..8, bit 11 at 7, bits 10..5 at 30..25 and bit 12 at 31
abbrev pub b_word : (opcode funct3 rs1 rs2 offset : ℕ) → ℕ
b_word opcode funct3 rs1 rs2 offset =
    r_word opcode (bits 11 11 offset + 2 * bits 4 1 offset) funct3 rs1 rs2 (bits 10 5 offset + 2 ^ 6 * bits 12 12 offset)

-- U: opcode 6..0, rd 11..7, the upper twenty bits 31..12
abbrev pub u_word : (opcode rd high : ℕ) → ℕ
u_word opcode rd high = opcode + 2 ^ 7 * rd + 2 ^ 12 * high

-- J: as U, with the offset's bits 19..12 at 19..12, bit 11 at 20, bits 10..1 at 30..21 and bit 20 at 31
abbrev pub j_word : (opcode rd offset : ℕ) → ℕ
j_word opcode rd offset =
    u_word opcode rd (bits 19 12 offset + 2 ^ 8 * bits 11 11 offset + 2 ^ 9 * bits 10 1 offset + 2 ^ 19 * bits 20 20 offset)

-- ---- the rows of one opcode: funct3, or funct7 and funct3

-- opcode 0x63, BRANCH (section "Conditional Branches")
abbrev pub branch_funct3 : Branch → ℕ
branch_funct3 Beq = 0
branch_funct3 Bne = 1
branch_funct3 Blt = 4
branch_funct3 Bge = 5
branch_funct3 Bltu = 6
branch_funct3 Bgeu = 7

-- opcode 0x03, LOAD (section "Load and Store Instructions")
abbrev pub load_funct3 : Load → ℕ
load_funct3 Lb = 0
load_funct3 Lh = 1
load_funct3 Lw = 2
load_funct3 Lbu = 4
load_funct3 Lhu = 5

-- opcode 0x23, STORE (section "Load and Store Instructions")
abbrev pub store_funct3 : Store → ℕ
store_funct3 Sb = 0
store_funct3 Sh = 1
store_funct3 Sw = 2

-- opcode 0x13, OP-IMM (section "Integer Register-Immediate Instructions")
abbrev pub immediate_funct3 : Immediate → ℕ
immediate_funct3 Addi = 0
immediate_funct3 Slti = 2
immediate_funct3 Sltiu = 3
immediate_funct3 Xori = 4
immediate_funct3 Ori = 6
immediate_funct3 Andi = 7

-- opcode 0x13, OP-IMM, with the amount at rs2: funct7 and funct3
abbrev pub shift_functs : Shift → ℕ × ℕ
shift_functs Slli = (0x00, 1)
shift_functs Srli = (0x00, 5)
shift_functs Srai = (0x20, 5)

-- opcode 0x33, OP (section "Integer Register-Register Operations"; chapter "M"): funct7 and funct3
abbrev pub operation_functs : Operation → ℕ × ℕ
operation_functs Add = (0x00, 0)
operation_functs Sub = (0x20, 0)
operation_functs Sll = (0x00, 1)
operation_functs Slt = (0x00, 2)
operation_functs Sltu = (0x00, 3)
operation_functs Xor = (0x00, 4)
operation_functs Srl = (0x00, 5)
operation_functs Sra = (0x20, 5)
operation_functs Or = (0x00, 6)
operation_functs And = (0x00, 7)
operation_functs Mul = (0x01, 0)
operation_functs Mulh = (0x01, 1)
operation_functs Mulhsu = (0x01, 2)
operation_functs Mulhu = (0x01, 3)
operation_functs Div = (0x01, 4)
operation_functs Divu = (0x01, 5)
operation_functs Rem = (0x01, 6)
operation_functs Remu = (0x01, 7)

-- ---- the table

abbrev pub word_of : Instr → ℕ
word_of (Lui rd high) = u_word 0x37 rd.number high.bits
word_of (Auipc rd high) = u_word 0x17 rd.number high.bits
word_of (Jal rd offset) = j_word 0x6F rd.number offset.bits
word_of (Jalr rd rs1 offset) = i_word 0x67 rd.number 0 rs1.number offset.bits
word_of (BranchIf branch rs1 rs2 offset) = b_word 0x63 (branch_funct3 branch) rs1.number rs2.number offset.bits
word_of (LoadFrom load rd rs1 offset) = i_word 0x03 rd.number (load_funct3 load) rs1.number offset.bits
word_of (StoreTo store rs1 rs2 offset) = s_word 0x23 (store_funct3 store) rs1.number rs2.number offset.bits
word_of (OnImmediate operation rd rs1 number) = i_word 0x13 rd.number (immediate_funct3 operation) rs1.number number.bits
word_of (OnShift shift rd rs1 amount) =
    let f = shift_functs shift in r_word 0x13 rd.number f.1 rs1.number amount.bits f.0
word_of (OnRegisters operation rd rs1 rs2) =
    let f = operation_functs operation in r_word 0x33 rd.number f.1 rs1.number rs2.number f.0
word_of Ecall = 0x00000073
