use Rattle.std.proofs.Common.{◌≡◌, drop}
use Rattle.ec_meaning.specs.Programs.{constant_from}
use Rattle.ec_meaning.proofs.source.constant_place.Given as goal

abbrev pub invariant-loop-place : goal.invariant-loop-place
invariant-loop-place l = constant_from l.place (drop l.place l.constants) l.number ≡ constant_from 0 l.constants l.number
