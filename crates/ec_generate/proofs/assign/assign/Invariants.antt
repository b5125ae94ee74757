use Rattle.std.proofs.Common.{take}
use Rattle.ec_generate.specs.Tables.{IsTableOf}
use Rattle.ec_world.specs.Agree.{AllTwo}
use Rattle.ec_generate.proofs.assign.assign.Given as goal

abbrev pub invariant-loop-operation : goal.invariant-loop-operation
invariant-loop-operation l = AllTwo (IsTableOf l.registers l.slots) (take l.operation-index l.program.operations) l.operations
