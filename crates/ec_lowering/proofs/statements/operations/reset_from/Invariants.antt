use Rattle.std.proofs.Common.{◌≡◌, ◌≤◌, drop}
use Rattle.ec_lowering.specs.Blocks.{defaults_onto}
use Rattle.ec_lowering.proofs.statements.operations.reset_from.Given as goal

-- the variables from n on have their defaults
abbrev pub invariant-loop-n : goal.invariant-loop-n
invariant-loop-n l = (l.from ≤ l.n) × (l.out ≡ defaults_onto l.m l.n (drop l.n l.types) l.initial.out)
