use Rattle.ec_moving.proofs.Silent.{code_keeps_places}
use Rattle.ec_moving.proofs.laws.code_keeps_places.Goals as goal

pub returns : goal.returns
returns start = code_keeps_places
