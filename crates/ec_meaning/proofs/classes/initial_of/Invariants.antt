use Rattle.std.proofs.Common.{◌≡◌, ◌+◌, drop}
use Rattle.ec_meaning.specs.Programs.{initial_from}
use Rattle.ec_meaning.proofs.classes.initial_of.Given as goal

abbrev pub invariant-loop-place : goal.invariant-loop-place
invariant-loop-place l = initial_from (l.place + 1) (drop l.place l.operations) l.class ≡ initial_from 1 l.operations l.class
