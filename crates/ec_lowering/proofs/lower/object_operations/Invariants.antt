use Rattle.std.proofs.Common.{take}
use Rattle.ec_emission.specs.Lowered.{IsOperationOf}
use Rattle.ec_meaning.specs.Sources.{source_of}
use Rattle.ec_world.specs.Agree.{AllTwo}
use Rattle.ec_lowering.proofs.lower.object_operations.Given as goal

abbrev pub invariant-loop-o : goal.invariant-loop-o
invariant-loop-o l = AllTwo (IsOperationOf (source_of l.tables.program.now)) (take l.o-index l.operations) l.made
