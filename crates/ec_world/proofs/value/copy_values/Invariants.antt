use Rattle.std.proofs.Common.{◌≡◌, take}
use Rattle.ec_world.proofs.value.copy_values.Given as goal

abbrev pub invariant-loop-i : goal.invariant-loop-i
invariant-loop-i l = l.copied ≡ take l.i l.values
