use Rattle.ec_packing.specs.Narrow.{FirstAre, NarrowHold}
use Rattle.ec_packing.proofs.widths.look_at_holds.Given as goal

abbrev pub invariant-loop-hold : goal.invariant-loop-hold
invariant-loop-hold l = FirstAre NarrowHold l.holds l.hold-index
