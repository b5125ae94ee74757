use Rattle.std.proofs.Common.{◌≡◌, ◌++◌, drop}
use Rattle.ec_emission.specs.Literals.{texts_of_operations}
use Rattle.ec_expressions.proofs.texts.add_operations.Given as goal

abbrev pub invariant-loop-operation : goal.invariant-loop-operation
invariant-loop-operation l =
    l.found ++ texts_of_operations (drop l.operation-index l.operations)
    ≡ l.initial.found ++ texts_of_operations l.operations
