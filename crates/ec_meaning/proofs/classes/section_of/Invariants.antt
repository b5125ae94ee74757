use Rattle.std.proofs.Common.{◌≡◌, ◌+◌, drop}
use Rattle.ec_meaning.specs.Programs.{section_from}
use Rattle.ec_meaning.proofs.classes.section_of.Given as goal

abbrev pub invariant-loop-place : goal.invariant-loop-place
invariant-loop-place l = section_from (l.place + 1) (drop l.place l.operations) l.class ≡ section_from 1 l.operations l.class
