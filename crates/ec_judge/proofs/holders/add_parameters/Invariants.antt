use Rattle.std.proofs.Common.{◌≡◌, ◌++◌, drop}
use Rattle.ec_rules.specs.Members.{parameter_entries}
use Rattle.ec_judge.proofs.holders.add_parameters.Given as goal

abbrev pub invariant-loop-p : goal.invariant-loop-p
invariant-loop-p l =
    l.entries ++ parameter_entries l.scope (drop l.p-index l.parameters) ≡ l.initial.entries ++ parameter_entries l.scope l.parameters
