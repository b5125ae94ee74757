use Rattle.std.proofs.Common.{refl}
use Rattle.ec_code_tables.proofs.running.driven.Goals as goal
use Rattle.ec_world.specs.Run.{statuses_of}

pub drive-requires : goal.drive-requires
drive-requires c = record { starts = (statuses_of c.args.running.now.world, refl) }
