use Rattle.std.proofs.Common.{◌≡◌, map, take}
use Rattle.ec_parcels.specs.Owners as spec
use Rattle.ec_packing.proofs.room.all_blocks.Given as goal

abbrev pub invariant-loop-i : goal.invariant-loop-i
invariant-loop-i l = l.blocks ≡ spec.all_blocks l.numbers (map (λ p. p.now) (take l.i l.parcels))
