use Rattle.std.proofs.Common.{◌≡◌, drop}
use Rattle.ec_meaning.specs.Programs.{class_from}
use Rattle.ec_meaning.proofs.source.class_place.Given as goal

abbrev pub invariant-loop-place : goal.invariant-loop-place
invariant-loop-place l = class_from l.place (drop l.place l.classes) l.number ≡ class_from 0 l.classes l.number
