use Rattle.ec_packing.specs.Narrow.{FirstAre, IsNarrow}
use Rattle.ec_packing.proofs.widths.look_at_values.Given as goal

abbrev pub invariant-loop-value : goal.invariant-loop-value
invariant-loop-value l = FirstAre IsNarrow l.values l.value-index
