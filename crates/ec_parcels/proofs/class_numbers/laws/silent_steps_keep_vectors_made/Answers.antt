-- Silent steps make no vectors.
use Rattle.ec_parcels.proofs.Worlds.{go_on_made}
use Rattle.ec_parcels.proofs.class_numbers.laws.silent_steps_keep_vectors_made.Goals as goal

pub returns : goal.returns
returns start p q w n h = go_on_made p q w n h
