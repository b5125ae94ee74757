-- What fits composes, since conformity does.
use Rattle.ec_types.proofs.Composes.{composes}
use Rattle.ec_types.proofs.laws.fitting_composes.Goals as goal

pub returns : goal.returns
returns start types few known s t u h k = record {
  given = h.given;
  wanted = k.wanted;
  conforms = composes types few known s t u h.given h.wanted k.wanted h.conforms k.conforms;
}
