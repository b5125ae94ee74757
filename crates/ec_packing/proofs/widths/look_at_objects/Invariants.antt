use Rattle.ec_packing.specs.Narrow.{FirstAre, NarrowObject}
use Rattle.ec_packing.proofs.widths.look_at_objects.Given as goal

abbrev pub invariant-loop-part : goal.invariant-loop-part
invariant-loop-part l = FirstAre NarrowObject l.parts l.part-index
