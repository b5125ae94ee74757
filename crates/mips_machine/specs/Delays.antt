-- The manual's delays, over instructions that are done one behind the other (Kane, MIPS RISC Architecture, chapter 1, "Delayed Load
-- Instructions" and "Delayed Jump and Branch Instructions"; appendix A, MFHI and MFLO). They hold of every code, from every state.
use Rattle.std.specs.Prelude.{◌≡◌, ◌↔◌, ℕ, List, Some, Bool, true, false, ◌&&◌, ◌||◌}
use Rattle.ec_target.specs.Code.{word_at}
use Rattle.ec_target.specs.declared.outcome.Cause.TheVariants.{Slot, LoadDelay, HiLo}
use Rattle.mips_isa.specs.Words.{word_of}
use Rattle.mips_isa.specs.declared.instr.Instr.{Instr}
use Rattle.mips_machine.specs.Hazards.{touches, is_jump, sets_hilo, reads_hilo, loads}
use Rattle.mips_machine.specs.Step.{State, Next, Goes, Traps, MipsStep, after}

-- the machine is at an instruction
abbrev pub IsAt : List ℕ → State → Instr → Type 0
IsAt code s i = word_at code s.flow.pc ≡ Some (word_of i)

-- it is at an instruction, and that is done
abbrev pub Does : List ℕ → State → Instr → State → Type 0
Does code s i t = IsAt code s i × MipsStep code s (Goes t)

-- The instruction that stands next, which is a jump's slot, is done before the one that the jump leads to.
abbrev pub SlotIsDoneFirst : Type 0
SlotIsDoneFirst =
    (code : List ℕ) (s t u : State) (jump slot : Instr) →
    Does code s jump t →
    Does code t slot u →
    (t.flow.pc ≡ s.flow.next) × (u.flow.pc ≡ after jump s.flow s.held)

-- A jump, a branch or a stop may not be the next instruction behind a jump or a branch, and may be anywhere else.
abbrev pub SlotHoldsNoJump : Type 0
SlotHoldsNoJump =
    (code : List ℕ) (s t : State) (i j : Instr) (next : Next) →
    Does code s i t →
    IsAt code t j →
    MipsStep code t next →
    (next ≡ Traps Slot) ↔ ((is_jump j && is_jump i) ≡ true)

-- The instruction next behind a load may not read or write the loaded register; from the second on each may.
abbrev pub LoadIsDelayed : Type 0
LoadIsDelayed =
    (code : List ℕ) (s t : State) (i j : Instr) (next : Next) →
    Does code s i t →
    IsAt code t j →
    MipsStep code t next →
    (next ≡ Traps LoadDelay) ↔ (touches j (loads i) ≡ true)

-- HI and LO may not be set by the two instructions behind one that reads either; from the third on they may. What touches a register
-- that was just loaded is found before.
abbrev pub HiLoIsKept : Type 0
HiLoIsKept =
    (code : List ℕ) (s t u : State) (i j k : Instr) (next : Next) →
    Does code s i t →
    Does code t j u →
    IsAt code u k →
    touches k (loads j) ≡ false →
    MipsStep code u next →
    (next ≡ Traps HiLo) ↔ ((sets_hilo k && (reads_hilo i || reads_hilo j)) ≡ true)
