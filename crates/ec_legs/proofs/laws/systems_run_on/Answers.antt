-- The system runs the world in which a process has gone on.
use Rattle.ec_legs.proofs.GoingKeeping.{runs_kept}
use Rattle.ec_legs.proofs.laws.systems_run_on.Goals as goal

pub returns : goal.returns
returns start d s t w p own count runs small parts images ran mirrors =
    runs_kept d s t w p own count runs small parts images ran mirrors
