use Rattle.std.proofs.Common.{◌≡◌, drop, map}
use Rattle.ec_types.specs.Declarations as spec
use Rattle.ec_types.proofs.conform.declared.declarations_of.Given as goal

abbrev pub invariant-loop-constant : goal.invariant-loop-constant
invariant-loop-constant l =
    spec.both l.found (spec.joined (map (λ constant. spec.in_value constant.value) (drop l.constant-index l.program.constants)))
    ≡ spec.declarations_of l.program
