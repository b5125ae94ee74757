use Rattle.std.proofs.Common.{take}
use Rattle.ec_types.specs.Numbered.{AreRows}
use Rattle.ec_types.proofs.conform.numbered.NumberedTypes.new.Given as goal

abbrev pub invariant-loop-t : goal.invariant-loop-t
invariant-loop-t l = AreRows (take l.t-index l.t-items) l.names l.rows.items
