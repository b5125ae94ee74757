use Rattle.std.proofs.Common.{sym}
use Rattle.std.proofs.lemmas.List.{append-nil}
use Rattle.ec_rules.proofs.Equations.{variable_member, constant_member, condition_member, operation_member}
use Rattle.ec_judge.proofs.holders.add_field_name.Goals as goal

pub returns-in_ok-entry-in-Variable : goal.returns-in_ok-entry-in-Variable
returns-in_ok-entry-in-Variable c = rw (c.in-Variable.is, variable_member, ← c.in_ok-entry-in-Variable.ensures) c.push.ensures.added

pub returns-in_ok-entry-in-Constant : goal.returns-in_ok-entry-in-Constant
returns-in_ok-entry-in-Constant c =
    rw (c.in-Constant.is, constant_member, ← c.in_ok-entry-in-Constant.ensures) c.push-in-Constant.ensures.added

pub returns-in-Condition : goal.returns-in-Condition
returns-in-Condition c = rw (c.in-Condition.is, condition_member) (sym (append-nil _))

pub returns-in-Operation : goal.returns-in-Operation
returns-in-Operation c = rw (c.in-Operation.is, operation_member) (sym (append-nil _))
