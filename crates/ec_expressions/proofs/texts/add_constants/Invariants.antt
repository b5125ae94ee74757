use Rattle.std.proofs.Common.{◌≡◌, ◌++◌, drop}
use Rattle.ec_emission.specs.Literals.{texts_of_constants}
use Rattle.ec_expressions.proofs.texts.add_constants.Given as goal

abbrev pub invariant-loop-constant : goal.invariant-loop-constant
invariant-loop-constant l =
    l.found ++ texts_of_constants (drop l.constant-index l.constants) ≡ l.initial.found ++ texts_of_constants l.constants
