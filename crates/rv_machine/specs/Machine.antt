-- A RISC-V machine's steps.
use Rattle.std.specs.Prelude.{◌≡◌, ℕ, List}
use Rattle.ec_base.specs.Bytes.{Bytes}
use Rattle.ec_target.specs.declared.outcome.Trap.{Trap}
use Rattle.ec_target.specs.declared.outcome.Outcome.{Outcome}
use Rattle.ec_target.specs.declared.outcome.Outcome.TheVariants as outcomes
use Rattle.rv_machine.specs.declared.machine.RvMachine.{RvMachine}
use Rattle.rv_machine.specs.Step.{State, Next, Goes, Stops, Traps, RvStep, register_of}

-- a machine and the bytes of its memory
abbrev pub state_of : RvMachine → Bytes → State
state_of m bytes = record { registers = m.registers; pc = m.pc; bytes = bytes }

-- what a call answers and leaves, by what the step comes to: a stop and a trap change nothing
abbrev pub IsAnswer : Next → State → Outcome → State → Type 0
IsAnswer (Goes next) old outcome new = (outcome ≡ outcomes.Went) × (new ≡ next)
IsAnswer Stops old outcome new = (outcome ≡ outcomes.Stop) × (new ≡ old)
IsAnswer (Traps cause) old outcome new = (outcome ≡ outcomes.Trap (record { cause = cause; pc = old.pc })) × (new ≡ old)

abbrev pub rv_goes : List ℕ → RvMachine → Bytes → RvMachine → Bytes → Type 0
rv_goes code m b n c = RvStep code (state_of m b) (Goes (state_of n c))

abbrev pub rv_stops : List ℕ → RvMachine → Bytes → Type 0
rv_stops code m b = RvStep code (state_of m b) Stops

abbrev pub rv_traps : List ℕ → RvMachine → Bytes → Trap → Type 0
rv_traps code m b trap = RvStep code (state_of m b) (Traps trap.cause) × (trap.pc ≡ m.pc)

abbrev pub rv_register : RvMachine → ℕ → ℕ
rv_register m r = register_of m.registers r
