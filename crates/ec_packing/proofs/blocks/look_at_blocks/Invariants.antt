use Rattle.ec_packing.specs.Blocks.{HasSmallBlock}
use Rattle.ec_packing.specs.Narrow.{FirstAre}
use Rattle.ec_packing.proofs.blocks.look_at_blocks.Given as goal
use Rattle.ec_stores.specs.Node.{store_of}

abbrev pub invariant-loop-part : goal.invariant-loop-part
invariant-loop-part l = FirstAre (HasSmallBlock (store_of l.node)) l.parts l.part-index
