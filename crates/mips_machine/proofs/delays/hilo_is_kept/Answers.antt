use Rattle.mips_machine.proofs.Following.{hilo_kept}
use Rattle.mips_machine.proofs.delays.hilo_is_kept.Goals as goal

pub returns : goal.returns
returns start code s t u i j k next d e at clear step = hilo_kept code s t u i j k next d e at clear step
