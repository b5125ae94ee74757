use Rattle.std.proofs.Common.{◌≡◌, ◌+◌, ◌++◌, drop}
use Rattle.ec_meaning.specs.Programs.{operations_from}
use Rattle.ec_meaning.specs.Sources.{source_of}
use Rattle.ec_meaning.proofs.classes.operations_of.Given as goal

abbrev pub invariant-loop-place : goal.invariant-loop-place
invariant-loop-place l =
    let s = source_of l.program in
    l.found ++ operations_from s (l.place + 1) (drop l.place l.operations) l.class ≡ operations_from s 1 l.operations l.class
