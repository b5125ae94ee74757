use Rattle.std.proofs.Common.{◌≡◌, ◌++◌, drop, map, None}
use Rattle.ec_rules.specs.Members.{constant_entry}
use Rattle.ec_judge.proofs.holders.add_parameter_names.Given as goal

abbrev pub invariant-loop-p : goal.invariant-loop-p
invariant-loop-p l =
    l.fields ++ map (λ p. constant_entry p.name None) (drop l.p-index l.parameters)
    ≡ l.initial.fields ++ map (λ p. constant_entry p.name None) l.parameters
