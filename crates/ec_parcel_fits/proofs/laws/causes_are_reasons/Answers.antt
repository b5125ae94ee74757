-- Each cause is against one of the facts.
use Rattle.ec_parcel_fits.proofs.Reasons.{no_fit}
use Rattle.ec_parcel_fits.proofs.laws.causes_are_reasons.Goals as goal

pub returns : goal.returns
returns c = no_fit
