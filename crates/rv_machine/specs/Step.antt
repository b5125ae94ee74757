-- What one instruction of a RISC-V machine does (RISC-V unprivileged manual, chapter "RV32I Base Integer Instruction Set").
use Rattle.std.specs.Prelude.{◌≡◌, ◌≢◌, ℕ, ◌*◌, ◌/◌, ◌%◌, ◌^◌, Bool, true, false, ◌==◌, if◌then◌else◌, List, slice_index, slice_set}
use Rattle.std.specs.Prelude.{Option, Some, None, is_some}
use Rattle.std.specs.Option.{option_map}
use Rattle.byteorder.specs.Endian.{little_number, little_bytes}
use Rattle.ec_base.specs.Bytes.{Bytes, bytes_from, with_bytes}
use Rattle.ec_target.specs.Code.{word_at}
use Rattle.ec_target.specs.declared.outcome.Cause.{Cause}
use Rattle.ec_target.specs.declared.outcome.Cause.TheVariants.{Unlisted, Unaligned, Outside, Fetch}
use Rattle.rv_isa.specs.Words.{word_of}
use Rattle.rv_isa.specs.declared.field.Register.{Register}
use Rattle.rv_isa.specs.declared.field.Twelve.{Twelve}
use Rattle.rv_isa.specs.declared.instr.Load.{Load}
use Rattle.rv_isa.specs.declared.instr.Instr.{Instr}
use Rattle.rv_isa.specs.declared.instr.Instr.TheVariants.{Lui, Auipc, Jal, Jalr, BranchIf, LoadFrom, StoreTo, OnImmediate, OnShift}
use Rattle.rv_isa.specs.declared.instr.Instr.TheVariants.{OnRegisters, Ecall}
use Rattle.rv_machine.specs.Values.{plus, extended, immediate_value, shift_value, operation_value, is_taken, load_size, load_value}
use Rattle.rv_machine.specs.Values.{store_size}

-- the registers, the place of the next instruction, and the bytes of the memory
pub record State : Type 0 where
  pub registers : List ℕ
  pub pc : ℕ
  pub bytes : Bytes

-- what a step comes to: a next state, a stop, or a trap. Only a step that goes on changes anything
pub data Next : Type 0 where
  Goes : State → Next
  Stops : Next
  Traps : Cause → Next

-- ---- registers

-- register 0 reads zero
abbrev pub register_of : List ℕ → ℕ → ℕ
register_of registers r = if r == 0 then 0 else slice_index registers r

-- and a write to it is lost
abbrev pub with_register : List ℕ → ℕ → ℕ → List ℕ
with_register registers r v = if r == 0 then registers else slice_set registers r v

abbrev pub read : State → Register → ℕ
read s r = register_of s.registers r.number

-- rs1 plus the sign-extended offset: where a load or a store begins, and where JALR goes but for bit 0
abbrev pub address : State → Register → Twelve → ℕ
address s rs1 offset = plus (read s rs1) (extended 12 offset.bits)

-- ---- what is left behind an instruction

-- the next instruction stands four bytes on
abbrev pub behind : State → State
behind s = record s { pc = plus s.pc 4 }

abbrev pub with_value : State → Register → ℕ → State
with_value s rd v = record s { registers = with_register s.registers rd.number v }

abbrev pub writes : State → Register → ℕ → Next
writes s rd v = Goes (behind (with_value s rd v))

-- an access of so many bytes at a multiple of their number, or a jump to a multiple of 4
abbrev pub aligned : ℕ → ℕ → Next → Next
aligned size at next = if at % size == 0 then next else Traps Unaligned

-- the machine goes on at a target
abbrev pub jumps : State → ℕ → Next
jumps s target = aligned 4 target (Goes (record s { pc = target }))

-- rd holds the place behind the instruction
abbrev pub linked : State → Register → State
linked s rd = with_value s rd (plus s.pc 4)

-- what a load makes of the bytes at an address, little-endian, where they are there
abbrev pub loaded : Load → Bytes → ℕ → Option ℕ
loaded load bytes at = option_map (load_value load) (option_map (little_number (load_size load)) (bytes_from bytes at (load_size load)))

-- a number that was read goes to a register, where it was in the memory
abbrev pub loads : State → Register → Option ℕ → Next
loads s rd None = Traps Outside
loads s rd (Some v) = writes s rd v

-- bytes go to the memory, where it has such bytes
abbrev pub stores : State → ℕ → List ℕ → Bool → Next
stores s at bs false = Traps Outside
stores s at bs true = Goes (behind (record s { bytes = with_bytes s.bytes at bs }))

-- ---- one instruction

abbrev pub does : Instr → State → Next
-- section "Integer Register-Immediate Instructions"
does (Lui rd high) s = writes s rd (high.bits * 2 ^ 12)
does (Auipc rd high) s = writes s rd (plus s.pc (high.bits * 2 ^ 12))
does (OnImmediate operation rd rs1 number) s =
    writes s rd (immediate_value operation (read s rs1) (extended 12 number.bits))
does (OnShift shift rd rs1 amount) s = writes s rd (shift_value shift (read s rs1) amount.bits)
-- section "Integer Register-Register Operations", and chapter "M"
does (OnRegisters operation rd rs1 rs2) s = writes s rd (operation_value operation (read s rs1) (read s rs2))
-- section "Unconditional Jumps"
does (Jal rd offset) s = jumps (linked s rd) (plus s.pc (extended 21 offset.bits))
does (Jalr rd rs1 offset) s = jumps (linked s rd) (address s rs1 offset / 2 * 2)
-- section "Conditional Branches"
does (BranchIf branch rs1 rs2 offset) s =
    if is_taken branch (read s rs1) (read s rs2) then jumps s (plus s.pc (extended 13 offset.bits)) else Goes (behind s)
-- section "Load and Store Instructions"
does (LoadFrom load rd rs1 offset) s =
    let at = address s rs1 offset in aligned (load_size load) at (loads s rd (loaded load s.bytes at))
does (StoreTo store rs1 rs2 offset) s =
    let at = address s rs1 offset in
    let size = store_size store in
    aligned size at (stores s at (little_bytes size (read s rs2)) (is_some (bytes_from s.bytes at size)))
-- section "Environment Call and Breakpoints"
does Ecall s = Stops

-- ---- one step: no word is at the machine's place; or its word is no instruction's; or it is an instruction's

pub data RvStep (code : List ℕ) (s : State) (next : Next) : Type 0 where
  nowhere : word_at code s.pc ≡ None → next ≡ Traps Fetch → RvStep code s next
  unlisted : (word : ℕ) → word_at code s.pc ≡ Some word → ((i : Instr) → word_of i ≢ word) → next ≡ Traps Unlisted → RvStep code s next
  listed : (i : Instr) → word_at code s.pc ≡ Some (word_of i) → next ≡ does i s → RvStep code s next
