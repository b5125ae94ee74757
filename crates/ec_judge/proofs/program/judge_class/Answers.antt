use Rattle.std.proofs.Common.{ap, ◌∙◌}
use Rattle.ec_rules.specs.Tree.{class_part}
use Rattle.ec_judge.specs.Holders.{over_holder}
use Rattle.ec_judge.proofs.Programs.{class_ruled}
use Rattle.ec_judge.proofs.program.judge_class.Goals as goal

pub returns : goal.returns
returns c =
    class_ruled c.args.walk.now c.judge_holder.new.walk (class_part c.args.class.now) c.args.name.now c.same_name.new.faults
    (c.in_ok-judge_holder.ensures.walk ∙ ap (over_holder c.args.walk.now) c.of_class.ensures) c.same_name.ensures
