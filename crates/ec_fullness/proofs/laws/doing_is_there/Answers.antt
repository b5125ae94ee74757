use Rattle.ec_fullness.proofs.FittingDoings.{doing_is_there}
use Rattle.ec_fullness.proofs.laws.doing_is_there.Goals as goal

pub returns : goal.returns
returns c = doing_is_there
