use Rattle.mips_machine.proofs.Following.{load_delayed}
use Rattle.mips_machine.proofs.delays.load_is_delayed.Goals as goal

pub returns : goal.returns
returns start code s t i j next d at step = load_delayed code s t i j next d at step
