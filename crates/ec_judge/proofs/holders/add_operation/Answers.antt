use Rattle.std.proofs.Common.{sym}
use Rattle.std.proofs.lemmas.List.{append-nil}
use Rattle.ec_rules.proofs.Equations.{variable_member, constant_member, condition_member, operation_member}
use Rattle.ec_judge.proofs.holders.add_operation.Goals as goal

pub returns-in-Variable : goal.returns-in-Variable
returns-in-Variable c = rw (c.in-Variable.is, variable_member) (sym (append-nil _))

pub returns-in-Constant : goal.returns-in-Constant
returns-in-Constant c = rw (c.in-Constant.is, constant_member) (sym (append-nil _))

pub returns-in-Condition : goal.returns-in-Condition
returns-in-Condition c = rw (c.in-Condition.is, condition_member) (sym (append-nil _))

pub returns-in_ok-operation_with-in-Operation : goal.returns-in_ok-operation_with-in-Operation
returns-in_ok-operation_with-in-Operation c =
    rw (c.in-Operation.is, operation_member, ← c.in_ok-operation_with-in-Operation.ensures) c.push.ensures.added
