use Rattle.std.proofs.Common.{◌≡◌, ◌++◌, drop, map}
use Rattle.ec_core.specs.Literals.{joined}
use Rattle.ec_core.specs.Literals.{texts_of_arm, texts_of_statement}
use Rattle.ec_expressions.proofs.texts.+blocks.Given as goal

abbrev pub invariant-add_arms-loop-arm : goal.invariant-add_arms-loop-arm
invariant-add_arms-loop-arm l =
    l.found ++ joined (map texts_of_arm (drop l.arm-index l.arms)) ≡ l.initial.found ++ joined (map texts_of_arm l.arms)

abbrev pub invariant-add_statements-loop-statement : goal.invariant-add_statements-loop-statement
invariant-add_statements-loop-statement l =
    l.found ++ joined (map texts_of_statement (drop l.statement-index l.statements))
    ≡ l.initial.found ++ joined (map texts_of_statement l.statements)
