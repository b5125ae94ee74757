use Rattle.std.proofs.Common.{take}
use Rattle.ec_types.specs.Numbered.{IsMore, IsNumbered}
use Rattle.ec_types.proofs.conform.numbered.row_of.Given as goal

abbrev pub invariant-loop-o : goal.invariant-loop-o
invariant-loop-o l = IsNumbered (take l.o-index l.operations) l.names l.numbers.items × IsMore l.initial.names l.names
