use Rattle.std.proofs.Common.{◌∙◌}
use Rattle.std.proofs.lemmas.Result.{IfOk-weaker}
use Rattle.ec_world.specs.Group.{marked_from}
use Rattle.ec_world.proofs.Members.{marked_group}
use Rattle.ec_world.proofs.Rounds.{group_of_same}
use Rattle.ec_world.proofs.group.group_in.Goals as goal

pub returns-clause-is : goal.returns-clause-is
returns-clause-is c =
    let marks = c.in_ok-marks.marks in
    let common = c.args.common.now in
    let is = marked_group common c.args.x marks c.in_ok-marks.ensures in
    IfOk-weaker c.marked.result _ _ (λ v e. e ∙ group_of_same common c.args.x (marked_from 1 marks) is) c.marked.ensures

pub returns-clause-members : goal.returns-clause-members
returns-clause-members c =
    let marks = c.in_ok-marks.marks in
    let common = c.args.common.now in
    let is = marked_group common c.args.x marks c.in_ok-marks.ensures in
    IfOk-weaker c.marked.result _ _ (λ v e. rw e is) c.marked.ensures
