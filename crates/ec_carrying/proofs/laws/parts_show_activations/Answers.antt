use Rattle.ec_carrying.proofs.Frames.{parts_show}
use Rattle.ec_carrying.proofs.laws.parts_show_activations.Goals as goal

pub returns : goal.returns
returns c = parts_show
