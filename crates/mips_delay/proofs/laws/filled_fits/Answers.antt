use Rattle.mips_delay.proofs.Fits.{filled_fits}
use Rattle.mips_delay.proofs.laws.filled_fits.Goals as goal

pub returns : goal.returns
returns start = filled_fits
