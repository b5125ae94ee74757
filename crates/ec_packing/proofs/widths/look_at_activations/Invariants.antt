use Rattle.ec_packing.specs.Narrow.{FirstAre, NarrowActivation}
use Rattle.ec_packing.proofs.widths.look_at_activations.Given as goal

abbrev pub invariant-loop-part : goal.invariant-loop-part
invariant-loop-part l = FirstAre NarrowActivation l.parts l.part-index
