use Rattle.ec_asking.proofs.Programs.{bare_shown}
use Rattle.ec_asking.proofs.laws.what_is_shown_bare_is_bare.Goals as goal

pub returns : goal.returns
returns c = bare_shown
