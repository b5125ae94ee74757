use Rattle.std.proofs.Common.{◌≡◌, ◌++◌, drop}
use Rattle.ec_emission.specs.Statements.{leave_ops}
use Rattle.ec_lowering.specs.Blocks.{arms_over, statements_by}
use Rattle.ec_lowering.proofs.statements.blocks.+blocks.Given as goal

-- the arms from n on are made
abbrev pub invariant-all_arms-loop-n : goal.invariant-all_arms-loop-n
invariant-all_arms-loop-n l = l.out ≡ arms_over l.m (leave_ops l.o) (drop l.n l.arms) l.passed l.left ++ l.initial.out

-- the statements from n on are made
abbrev pub invariant-all_statements-loop-n : goal.invariant-all_statements-loop-n
invariant-all_statements-loop-n l = l.out ≡ statements_by l.m (leave_ops l.o) (drop l.n l.xs) l.left ++ l.initial.out
