use Rattle.ec_packing.specs.Narrow.{FirstAre, NarrowPart}
use Rattle.ec_packing.proofs.widths.look_at_monitors.Given as goal

abbrev pub invariant-loop-part : goal.invariant-loop-part
invariant-loop-part l = FirstAre NarrowPart l.parts l.part-index
