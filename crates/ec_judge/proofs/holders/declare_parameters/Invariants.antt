use Rattle.std.proofs.Common.{◌≡◌, drop}
use Rattle.ec_rules.specs.Members.{parameter_entries}
use Rattle.ec_types.specs.Scopes.{declaring}
use Rattle.ec_judge.proofs.holders.declare_parameters.Given as goal

abbrev pub invariant-loop-p : goal.invariant-loop-p
invariant-loop-p l =
    declaring (parameter_entries l.scope (drop l.p-index l.parameters)) l.scope
    ≡ declaring (parameter_entries l.initial.scope l.parameters) l.initial.scope
