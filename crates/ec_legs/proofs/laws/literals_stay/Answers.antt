-- The literals stay at their places.
use Rattle.ec_legs.proofs.GoingKeeping.{literals_kept}
use Rattle.ec_legs.proofs.laws.literals_stay.Goals as goal

pub returns : goal.returns
returns start c c' own count parts ran h = literals_kept c c' own count parts ran h
