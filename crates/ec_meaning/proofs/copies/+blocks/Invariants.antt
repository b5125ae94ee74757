use Rattle.std.proofs.Common.{◌≡◌, take}
use Rattle.ec_meaning.proofs.copies.+blocks.Given as goal

abbrev pub invariant-copy_arms-loop-arm : goal.invariant-copy_arms-loop-arm
invariant-copy_arms-loop-arm l = l.copied ≡ take l.arm-index l.arms

abbrev pub invariant-copy_statements-loop-s : goal.invariant-copy_statements-loop-s
invariant-copy_statements-loop-s l = l.copied ≡ take l.s-index l.statements
