-- Each parcel is one of them.
use Rattle.std.proofs.Common.{Some, arith, sym, ap, ◌∙◌}
use Rattle.std.proofs.lemmas.Option.{slice_get-get_or}
use Rattle.ec_packing.proofs.room.all_blocks.Goals as goal
use Rattle.ec_parcels.proofs.Rising.{map_get}

pub blocks_in-requires : goal.blocks_in-requires
blocks_in-requires c =
    c.requires c.index-parcels-i.result.now (record {
      at = c.loop-i.i;
      is =
          map_get (λ p. p.now) c.args.parcels.now c.loop-i.i c.index-parcels-i.result
          (slice_get-get_or c.args.parcels.now c.loop-i.i c.index-parcels-i.result (omega arith) ∙ ap Some (sym c.index-parcels-i.is));
    })
