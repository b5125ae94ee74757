use Rattle.std.proofs.Common.{◌≡◌, ◌++◌, drop, map}
use Rattle.ec_rules.specs.Faults.{globals_in}
use Rattle.ec_rules.specs.Tree.{constant_part}
use Rattle.ec_judge.proofs.program.globals_in.Given as goal

abbrev pub invariant-loop-c : goal.invariant-loop-c
invariant-loop-c l =
    l.globals ++ globals_in l.scope (map constant_part (drop l.c-index l.constants))
    ≡ globals_in l.scope (map constant_part l.constants)
