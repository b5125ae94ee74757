use Rattle.ec_moving.proofs.Source.{source_keeps_places}
use Rattle.ec_moving.proofs.laws.source_keeps_places.Goals as goal

pub returns : goal.returns
returns start = source_keeps_places
