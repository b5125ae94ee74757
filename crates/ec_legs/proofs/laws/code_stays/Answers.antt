-- The same program has the same code.
use Rattle.ec_legs.proofs.GoingKeeping.{code_kept}
use Rattle.ec_legs.proofs.laws.code_stays.Goals as goal

pub returns : goal.returns
returns start d c c' parts images h = code_kept d c c' parts images h
