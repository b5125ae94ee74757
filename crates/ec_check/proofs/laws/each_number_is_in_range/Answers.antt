-- Each number in the core of an accepted program is in range.
use Rattle.ec_check.proofs.RangedPrograms.{program_ranged}
use Rattle.ec_check.proofs.laws.each_number_is_in_range.Goals as goal

pub returns : goal.returns
returns start table program is none = program_ranged table program none
