-- The variables, fields, captured names and constants of an accepted program are of known types.
use Rattle.ec_core_laws.proofs.KnownPlaces.{places_known}
use Rattle.ec_core_laws.proofs.laws.each_type_of_a_place_is_known.Goals as goal

pub returns : goal.returns
returns start table program is none = places_known table program is none
