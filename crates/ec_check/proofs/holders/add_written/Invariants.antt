use Rattle.std.proofs.Common.{◌≡◌, ◌++◌, drop, length}
use Rattle.ec_check.specs.Resolving.{numbers_from, types_written}
use Rattle.ec_check.proofs.holders.add_written.Given as goal

abbrev pub invariant-loop-p : goal.invariant-loop-p
invariant-loop-p l = record {
  numbers : l.variables.numbers.items ++ numbers_from (length l.variables.types) (length (drop l.p-index l.parameters))
      ≡ l.initial.variables.numbers.items ++ numbers_from (length l.initial.variables.types) (length l.parameters);
  types : l.variables.types ++ types_written l.scope (drop l.p-index l.parameters)
      ≡ l.initial.variables.types ++ types_written l.scope l.parameters;
}
