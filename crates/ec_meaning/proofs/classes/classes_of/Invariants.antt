use Rattle.std.proofs.Common.{◌≡◌, map, take}
use Rattle.ec_meaning.specs.Programs.{class_of}
use Rattle.ec_meaning.specs.Sources.{source_of}
use Rattle.ec_meaning.proofs.classes.classes_of.Given as goal

abbrev pub invariant-loop-class : goal.invariant-loop-class
invariant-loop-class l = l.found ≡ map (class_of (source_of l.program)) (take l.class-index l.classes)
