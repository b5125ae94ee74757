use Rattle.ec_reached.proofs.Order.{monitor_fits}
use Rattle.ec_reached.proofs.laws.each_monitor_fits.Goals as goal

pub returns : goal.returns
returns g c = monitor_fits g.A.Activation.meaning
