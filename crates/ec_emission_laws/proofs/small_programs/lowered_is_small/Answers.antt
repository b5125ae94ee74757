-- What a source is lowered to is small.
use Rattle.ec_emission_laws.proofs.Programs.{lowered_small}
use Rattle.ec_emission_laws.proofs.small_programs.lowered_is_small.Goals as goal

pub returns : goal.returns
returns start s program p h small bytes lowered = lowered_small s program p h lowered small bytes
