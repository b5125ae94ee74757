use Rattle.std.proofs.Common.{◌≡◌, map, take}
use Rattle.ec_meaning.specs.Programs.{captured_field}
use Rattle.ec_meaning.specs.Types.{kind_of}
use Rattle.ec_meaning.proofs.classes.captured_fields.Given as goal

abbrev pub invariant-loop-of : goal.invariant-loop-of
invariant-loop-of l = l.found ≡ map (λ of. captured_field (kind_of of)) (take l.of-index l.types)
