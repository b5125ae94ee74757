-- What has just been loaded is where the first world has it.
use Rattle.std.proofs.Common.{length, ◌∙◌}
use Rattle.ec_cluster.proofs.Noting.{first_are_at}
use Rattle.ec_rooms.proofs.Worlds.{first_placed}
use Rattle.ec_rooms.specs.PlacingLaws.{FirstArePlaced}

pub first_are_placed : FirstArePlaced
first_are_placed p images specs s loaded = record {
  each = first_placed (length specs) p;
  placed = λ oid. loaded.whereabouts.places oid ∙ (first_are_at (length specs)).each oid;
}
