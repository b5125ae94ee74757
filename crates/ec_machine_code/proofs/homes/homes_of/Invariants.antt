use Rattle.std.proofs.Common.{◌≡◌, length}
use Rattle.ec_machine_code.proofs.Choosing.{AreChosen}
use Rattle.ec_machine_code.proofs.homes.homes_of.Given as goal

abbrev pub invariant-loop-c : goal.invariant-loop-c
invariant-loop-c l = AreChosen l.named l.count l.registers l.code l.homes × (length l.homes ≡ l.c)
