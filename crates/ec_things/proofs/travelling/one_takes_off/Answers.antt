use Rattle.ec_things.proofs.Turns.{takes_off}
use Rattle.ec_things.proofs.travelling.one_takes_off.Goals as goal

pub returns : goal.returns
returns g c = takes_off
