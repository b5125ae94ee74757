-- What an instruction asks of those before it: which registers it touches, and whether it jumps or uses HI and LO (Kane, MIPS RISC
-- Architecture, chapter 1, "Delayed Load Instructions" and "Delayed Jump and Branch Instructions"; appendix A, MFHI and MFLO).
use Rattle.std.specs.Prelude.{ℕ, Bool, true, false, not, ◌&&◌, ◌||◌, ◌==◌}
use Rattle.mips_isa.specs.declared.instr.Instr.{Instr}
use Rattle.mips_isa.specs.declared.instr.Instr.TheVariants.{OnShift, OnVariableShift, OnRegisters, OnHiLo, ReadHiLo, WriteHiLo, Jr}
use Rattle.mips_isa.specs.declared.instr.Instr.TheVariants.{Jalr, Syscall, J, Jal, BranchIf, BranchOnZero, OnImmediate, Lui}
use Rattle.mips_isa.specs.declared.instr.Instr.TheVariants.{LoadFrom, StoreTo}

-- the registers that it reads; 0 where it reads fewer than two
abbrev pub reads : Instr → ℕ × ℕ
reads (OnShift shift rd rt amount) = (0, rt.number)
reads (OnVariableShift shift rd rt rs) = (rs.number, rt.number)
reads (OnRegisters operation rd rs rt) = (rs.number, rt.number)
reads (OnHiLo operation rs rt) = (rs.number, rt.number)
reads (ReadHiLo from rd) = (0, 0)
reads (WriteHiLo to rs) = (rs.number, 0)
reads (Jr rs) = (rs.number, 0)
reads (Jalr link) = (link.rs.number, 0)
reads Syscall = (0, 0)
reads (J target) = (0, 0)
reads (Jal target) = (0, 0)
reads (BranchIf branch rs rt offset) = (rs.number, rt.number)
reads (BranchOnZero branch rs offset) = (rs.number, 0)
reads (OnImmediate operation rt rs number) = (rs.number, 0)
reads (Lui rt number) = (0, 0)
reads (LoadFrom load rt rs offset) = (rs.number, 0)
reads (StoreTo store rt rs offset) = (rs.number, rt.number)

-- the register that it writes, or 0
abbrev pub writes : Instr → ℕ
writes (OnShift shift rd rt amount) = rd.number
writes (OnVariableShift shift rd rt rs) = rd.number
writes (OnRegisters operation rd rs rt) = rd.number
writes (OnHiLo operation rs rt) = 0
writes (ReadHiLo from rd) = rd.number
writes (WriteHiLo to rs) = 0
writes (Jr rs) = 0
writes (Jalr link) = link.rd.number
writes Syscall = 0
writes (J target) = 0
writes (Jal target) = 31
writes (BranchIf branch rs rt offset) = 0
writes (BranchOnZero branch rs offset) = 0
writes (OnImmediate operation rt rs number) = rt.number
writes (Lui rt number) = rt.number
writes (LoadFrom load rt rs offset) = rt.number
writes (StoreTo store rt rs offset) = 0

-- it reads or writes register r, other than register 0
abbrev pub touches : Instr → ℕ → Bool
touches i r = not (r == 0) && ((writes i == r) || (((reads i).0 == r) || ((reads i).1 == r)))

-- a jump, a branch or a stop: it may not stand in a delay slot
abbrev pub is_jump : Instr → Bool
is_jump (Jr rs) = true
is_jump (Jalr link) = true
is_jump Syscall = true
is_jump (J target) = true
is_jump (Jal target) = true
is_jump (BranchIf branch rs rt offset) = true
is_jump (BranchOnZero branch rs offset) = true
is_jump _ = false

-- it sets HI or LO, or reads one
abbrev pub sets_hilo : Instr → Bool
sets_hilo (OnHiLo operation rs rt) = true
sets_hilo (WriteHiLo to rs) = true
sets_hilo _ = false

abbrev pub reads_hilo : Instr → Bool
reads_hilo (ReadHiLo from rd) = true
reads_hilo _ = false

-- the register that it loads, or 0
abbrev pub loads : Instr → ℕ
loads (LoadFrom load rt rs offset) = rt.number
loads _ = 0

-- the stop
abbrev pub is_stop : Instr → Bool
is_stop Syscall = true
is_stop _ = false
