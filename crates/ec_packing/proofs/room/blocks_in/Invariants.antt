use Rattle.std.proofs.Common.{◌≡◌, take}
use Rattle.std.specs.List.{sum_by}
use Rattle.ec_parcels.specs.Owners.{object_blocks}
use Rattle.ec_packing.proofs.room.blocks_in.Given as goal

abbrev pub invariant-loop-i : goal.invariant-loop-i
invariant-loop-i l = l.blocks ≡ sum_by (object_blocks l.numbers) (take l.i l.contents.objects)
