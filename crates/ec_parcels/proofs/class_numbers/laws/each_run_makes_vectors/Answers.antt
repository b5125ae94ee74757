-- The code makes vectors of each type that is in a world of a run.
use Rattle.ec_parcels.proofs.Worlds.{run_made}
use Rattle.ec_parcels.proofs.class_numbers.laws.each_run_makes_vectors.Goals as goal

pub returns : goal.returns
returns start d p fine n entries = run_made p d fine n entries
