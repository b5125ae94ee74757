-- The source determines the program.
use Rattle.ec_emission.proofs.Determined.{determined}
use Rattle.ec_emission.proofs.lowered.lowering_is_determined.Goals as goal

pub returns : goal.returns
returns start s p q a b = determined s p q a b
