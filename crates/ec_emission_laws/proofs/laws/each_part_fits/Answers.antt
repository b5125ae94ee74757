-- Each part of a well-typed core fits.
use Rattle.ec_emission_laws.proofs.Cores.{parts_fit}
use Rattle.ec_emission_laws.proofs.laws.each_part_fits.Goals as goal

pub returns : goal.returns
returns start s well exits drops = parts_fit s well exits drops
