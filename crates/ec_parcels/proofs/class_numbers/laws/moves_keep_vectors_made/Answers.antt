-- Moves by the operator make no vectors.
use Rattle.ec_parcels.proofs.Worlds.{move_made}
use Rattle.ec_parcels.proofs.class_numbers.laws.moves_keep_vectors_made.Goals as goal

pub returns : goal.returns
returns start p w o k h = move_made p w o k h
