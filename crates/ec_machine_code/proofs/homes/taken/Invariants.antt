use Rattle.ec_machine_code.specs.Rows.{HaveRegisters}
use Rattle.ec_machine_code.proofs.homes.taken.Given as goal

abbrev pub invariant-loop-c : goal.invariant-loop-c
invariant-loop-c l = HaveRegisters l.row l.homes l.registers l.c l.taken.items
