use Rattle.std.proofs.Common.{◌≡◌, take}
use Rattle.ec_types.proofs.conform.declared.copy_types.Given as goal

abbrev pub invariant-loop-of : goal.invariant-loop-of
invariant-loop-of l = l.copies ≡ take l.of-index l.types
