use Rattle.std.proofs.Common.{◌≡◌}
use Rattle.std.specs.Iterator.Adapters.{zip_first, zip_second}
use Rattle.std.specs.Slice.Iter.{iter_rest}
use Rattle.ec_rules.specs.Calls.{wrong_arguments_for}
use Rattle.ec_rules.specs.Rules.{noted}
use Rattle.ec_rules.proofs.calls.arguments_fit.Given as goal

abbrev pub invariant-loop-wanted : goal.invariant-loop-wanted
invariant-loop-wanted l =
    noted l.faults
    (wrong_arguments_for l.table (iter_rest (zip_first l.wanted-iterator)) (iter_rest (zip_second l.wanted-iterator)))
    ≡ noted l.initial.faults (wrong_arguments_for l.table l.parameters l.arguments)
