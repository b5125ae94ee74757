use Rattle.std.proofs.Common.{◌≡◌, map, take}
use Rattle.ec_meaning.specs.Types.{kind_of}
use Rattle.ec_meaning.proofs.classes.globals_of.Given as goal

abbrev pub invariant-loop-constant : goal.invariant-loop-constant
invariant-loop-constant l = l.found ≡ map (λ c. kind_of c.of) (take l.constant-index l.constants)
