use Rattle.mips_machine.proofs.Following.{no_jump_in_slot}
use Rattle.mips_machine.proofs.delays.slot_holds_no_jump.Goals as goal

pub returns : goal.returns
returns start code s t i j next d at step = no_jump_in_slot code s t i j next d at step
