use Rattle.ec_judge.proofs.Programs.{first_found}
use Rattle.ec_judge.proofs.program.first_fault.Goals as goal

pub returns : goal.returns
returns c =
    first_found c.args.program.now c.in_ok-table.table c.in_ok-scope.scope c.as_slice-constants.result.now c.in_ok-walk.walk.faults.first
    c.in_ok-table.ensures c.in_ok-scope.ensures c.as_slice-constants.ensures c.in_ok-walk.ensures.first
