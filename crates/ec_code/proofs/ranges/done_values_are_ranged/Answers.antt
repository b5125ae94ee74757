-- What is done is in range.
use Rattle.ec_code.proofs.Outcomes.{done_ranged}
use Rattle.ec_code.proofs.ranges.done_values_are_ranged.Goals as goal

pub returns : goal.returns
returns start c who doing r h = done_ranged c r who doing h
