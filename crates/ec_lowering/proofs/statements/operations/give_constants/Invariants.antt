use Rattle.std.proofs.Common.{◌≡◌, drop}
use Rattle.ec_lowering.specs.Blocks.{constants_onto}
use Rattle.ec_lowering.proofs.statements.operations.give_constants.Given as goal

-- the constants from n on are given their values
abbrev pub invariant-loop-n : goal.invariant-loop-n
invariant-loop-n l = l.out ≡ constants_onto l.m l.n (drop l.n l.constants) l.initial.out
