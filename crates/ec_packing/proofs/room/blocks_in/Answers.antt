-- The blocks of one object more; its values are few, since the parcel keeps the rules of the wire form.
use Rattle.std.proofs.Common.{ap, ◌∙◌, arith, take}
use Rattle.std.specs.List.{sum_by}
use Rattle.std.proofs.lemmas.List.Sums.{sum_by_push}
use Rattle.ec_base.proofs.Lists.{take_next}
use Rattle.ec_packing.proofs.Sizes.{few_values}
use Rattle.ec_packing.proofs.room.blocks_in.Goals as goal
use Rattle.ec_parcels.specs.Owners.{object_blocks}

pub object_blocks-requires-clause-few : goal.object_blocks-requires-clause-few
object_blocks-requires-clause-few c =
    few_values c.contents-contents.result.now c.contents-contents.ensures.rules c.loop-i.i c.at-object.result.now c.at-object.ensures

pub loop-i-preserved : goal.loop-i-preserved
loop-i-preserved c =
    let objects = c.contents-contents.result.now.objects in
    let blocks = object_blocks c.args.numbers.now in
    let more = ap (sum_by blocks) (take_next objects c.loop-i.i c.at-object.result.now c.at-object.ensures)
    ∙ sum_by_push blocks (take c.loop-i.i objects) c.at-object.result.now in
    omega (arith, more, c.loop-i.invariant, c.object_blocks.ensures, c.from.ensures, c.in_ok-blocks.ensures)
