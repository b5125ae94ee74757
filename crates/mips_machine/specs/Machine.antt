-- A MIPS machine's steps.
use Rattle.std.specs.Prelude.{◌≡◌, ℕ, List, [], ◌∷◌, Result, Ok, Err}
use Rattle.ec_base.specs.Bytes.{Bytes}
use Rattle.ec_target.specs.declared.outcome.Cause.{Cause}
use Rattle.ec_target.specs.declared.outcome.Trap.{Trap}
use Rattle.ec_target.specs.declared.outcome.Outcome.{Outcome}
use Rattle.ec_target.specs.declared.outcome.Outcome.TheVariants as outcomes
use Rattle.mips_machine.specs.declared.machine.MipsMachine.{MipsMachine}
use Rattle.mips_machine.specs.Step.{Data, State, Next, Goes, Stops, Traps, Effect, Done, Fails, MipsStep, register_of, resting}

-- a machine's registers, with the bytes of its memory
abbrev pub data_of : MipsMachine → Bytes → Data
data_of m bytes = record { registers = m.registers; hi = m.hi; lo = m.lo; bytes = bytes }

abbrev pub state_of : MipsMachine → Bytes → State
state_of m bytes = record { held = data_of m bytes; flow = m.flow }

-- what a call answers and leaves, by what the step comes to: a stop and a trap change nothing
abbrev pub IsAnswer : Next → State → Outcome → State → Type 0
IsAnswer (Goes next) old outcome new = (outcome ≡ outcomes.Went) × (new ≡ next)
IsAnswer Stops old outcome new = (outcome ≡ outcomes.Stop) × (new ≡ old)
IsAnswer (Traps cause) old outcome new = (outcome ≡ outcomes.Trap (record { cause = cause; pc = old.flow.pc })) × (new ≡ old)

-- the same of what an instruction does to registers and memory
abbrev pub HasEffect : Effect → Data → Result (Unit {0}) Cause → Data → Type 0
HasEffect (Done d) old result new = (result ≡ Ok tt) × (new ≡ d)
HasEffect (Fails cause) old result new = (result ≡ Err cause) × (new ≡ old)

abbrev pub mips_goes : List ℕ → MipsMachine → Bytes → MipsMachine → Bytes → Type 0
mips_goes code m b n c = MipsStep code (state_of m b) (Goes (state_of n c))

abbrev pub mips_stops : List ℕ → MipsMachine → Bytes → Type 0
mips_stops code m b = MipsStep code (state_of m b) Stops

abbrev pub mips_traps : List ℕ → MipsMachine → Bytes → Trap → Type 0
mips_traps code m b trap = MipsStep code (state_of m b) (Traps trap.cause) × (trap.pc ≡ m.flow.pc)

abbrev pub mips_register : MipsMachine → ℕ → ℕ
mips_register m r = register_of m.registers r

abbrev pub mips_place : MipsMachine → ℕ
mips_place m = m.flow.pc

-- no register is being loaded, the next instruction is the one behind, it is in no slot, and HI and LO were read long ago
abbrev pub mips_rests : MipsMachine → Type 0
mips_rests m = m.flow ≡ resting m.flow.pc

abbrev pub mips_beside : MipsMachine → List ℕ
mips_beside m = m.hi ∷ m.lo ∷ []
