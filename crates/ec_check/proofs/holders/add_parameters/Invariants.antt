use Rattle.std.proofs.Common.{◌≡◌, ◌++◌, drop, map}
use Rattle.ec_check.specs.Resolving.{parameter_field}
use Rattle.ec_check.proofs.holders.add_parameters.Given as goal

abbrev pub invariant-loop-p : goal.invariant-loop-p
invariant-loop-p l =
    l.fields ++ map (parameter_field l.scope) (drop l.p-index l.parameters)
    ≡ l.initial.fields ++ map (parameter_field l.scope) l.parameters
