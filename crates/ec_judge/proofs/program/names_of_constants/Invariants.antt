use Rattle.std.proofs.Common.{◌≡◌, ◌++◌, drop, map}
use Rattle.ec_rules.specs.Tree.{constant_part}
use Rattle.ec_judge.proofs.program.names_of_constants.Given as goal

abbrev pub invariant-loop-c : goal.invariant-loop-c
invariant-loop-c l =
    map (λ x. x.now) l.names.items ++ map (λ c. c.name) (map constant_part (drop l.c-index l.constants))
    ≡ map (λ c. c.name) (map constant_part l.constants)
