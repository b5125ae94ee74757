use Rattle.mips_machine.proofs.Following.{slot_first}
use Rattle.mips_machine.proofs.delays.slot_is_done_first.Goals as goal

pub returns : goal.returns
returns start code s t u i j d e = slot_first code s t u i j d e
