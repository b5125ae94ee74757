use Rattle.std.proofs.Common.{sym, ◌∙◌}
use Rattle.ec_check.proofs.Acceptance.{has_core}
use Rattle.ec_judge.proofs.Programs.{first_found}
use Rattle.ec_check.proofs.check.core_if_accepted.Goals as goal

pub returns-in-Some : goal.returns-in-Some
returns-in-Some c =
    let found = first_found c.args.program.now c.args.table c.in_ok-scope.scope c.as_slice-constants.result.now
    c.in_ok-walk.walk.faults.first
    c.requires c.in_ok-scope.ensures c.as_slice-constants.ensures c.in_ok-walk.ensures.first in
    record { accepted = tt; refused = (found.0, found.1, sym found.2 ∙ c.in-Some.is) }

pub returns-in_ok-core_of-in-None : goal.returns-in_ok-core_of-in-None
returns-in_ok-core_of-in-None c =
    record {
      accepted =
          has_core c.args.program.now c.args.table c.in_ok-scope.scope c.as_slice-constants.result.now
          c.requires c.in_ok-scope.ensures c.as_slice-constants.ensures c.in_ok-walk.walk.faults.first c.in_ok-walk.ensures.first
          c.in-None.is
          c.in_ok-walk.walk.scope c.in_ok-walk.ensures.scope c.in_ok-core_of-in-None.field-0.0 c.in_ok-core_of-in-None.ensures.core
          c.in_ok-core_of-in-None.field-0.1 c.in_ok-core_of-in-None.ensures.table;
      refused = tt;
    }
