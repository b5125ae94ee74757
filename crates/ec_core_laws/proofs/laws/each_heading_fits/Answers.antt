-- Each operation of an accepted program has variables for its parameters and its result.
use Rattle.ec_core_laws.proofs.Headings.{each_fits}
use Rattle.ec_core_laws.proofs.laws.each_heading_fits.Goals as goal

pub returns : goal.returns
returns start table program is none = each_fits table program is none
