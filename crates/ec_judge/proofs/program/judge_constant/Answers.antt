use Rattle.ec_rules.specs.Tree.{class_part, part_of}
use Rattle.ec_judge.proofs.Programs.{class_faults_are, value_faults_are}
use Rattle.ec_judge.proofs.Steps.{finished_scope, on_ok}
use Rattle.ec_judge.proofs.program.judge_constant.Goals as goal

pub returns-in-Expression-clause-faults : goal.returns-in-Expression-clause-faults
returns-in-Expression-clause-faults c =
    rw c.in-Expression.is
    (on_ok c.judge_value.result
    (value_faults_are c.args.walk.now c.judge_value.new.walk (part_of c.in-Expression.e) c.args.c.now.name c.args.c.now.of)
    c.judge_value.ensures.walk)

pub returns-in-Expression-clause-scope : goal.returns-in-Expression-clause-scope
returns-in-Expression-clause-scope c =
    on_ok c.judge_value.result (finished_scope c.args.walk.now c.judge_value.new.walk _ _) c.judge_value.ensures.walk

pub returns-in_ok-judge_class-in-Class-clause-faults : goal.returns-in_ok-judge_class-in-Class-clause-faults
returns-in_ok-judge_class-in-Class-clause-faults c =
    rw c.in-Class.is
    (class_faults_are c.args.walk.now c.judge_class.new.walk
    (class_part c.in-Class.class) c.args.c.now.name c.args.c.now.of c.in_ok-judge_class-in-Class.ensures)

pub returns-in_ok-judge_class-in-Class-clause-scope : goal.returns-in_ok-judge_class-in-Class-clause-scope
returns-in_ok-judge_class-in-Class-clause-scope c =
    finished_scope c.args.walk.now c.judge_class.new.walk _ _ c.in_ok-judge_class-in-Class.ensures
