use Rattle.ec_rules.specs.Forms.{form_seen}
use Rattle.ec_rules.specs.Tree.{part_of}
use Rattle.ec_judge.proofs.Programs.{value_ruled}
use Rattle.ec_judge.proofs.program.judge_value.Goals as goal

pub returns-clause-walk : goal.returns-clause-walk
returns-clause-walk c =
    value_ruled c.args.walk.now c.value.new.walk (part_of c.args.e.now) c.args.name.now c.args.of.now
    (form_seen c.form_of.result) c.in_ok-found.found
    c.value_rules.new.faults c.in_ok-found.ensures.walk c.in_ok-found.ensures.value c.form_of.ensures c.in_ok-value_rules.ensures
