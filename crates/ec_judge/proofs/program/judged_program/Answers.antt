use Rattle.std.proofs.Common.{map}
use Rattle.ec_rules.specs.Tree.{constant_part}
use Rattle.ec_judge.proofs.Programs.{first_of_all}
use Rattle.ec_judge.proofs.program.judged_program.Goals as goal

pub returns-clause-first : goal.returns-clause-first
returns-clause-first c =
    first_of_all c.args.scope (map constant_part c.args.constants.now) c.new.result c.judge_constants.new.walk.faults
    c.program_rules.new.faults c.in_ok-done.done c.new.ensures c.in_ok-done.ensures.faults c.in_ok-done.ensures.done
    c.in_ok-program_rules.ensures
