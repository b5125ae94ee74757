-- Actions make no vectors of other types.
use Rattle.ec_parcels.proofs.Worlds.{action_made}
use Rattle.ec_parcels.proofs.class_numbers.laws.actions_keep_vectors_made.Goals as goal

pub returns : goal.returns
returns start d p fine w n s h = action_made p d fine w n s h
