use Rattle.std.proofs.Common.{refl}
use Rattle.ec_rules.proofs.Equations.{variable_member, constant_member, condition_member, operation_member, operation_step}
use Rattle.ec_judge.proofs.holders.member_name.Goals as goal

pub returns-in-Variable : goal.returns-in-Variable
returns-in-Variable c = rw (c.in-Variable.is, variable_member) refl

pub returns-in-Constant : goal.returns-in-Constant
returns-in-Constant c = rw (c.in-Constant.is, constant_member) refl

pub returns-in-Condition : goal.returns-in-Condition
returns-in-Condition c = rw (c.in-Condition.is, condition_member) refl

pub returns-in-Operation : goal.returns-in-Operation
returns-in-Operation c = rw (c.in-Operation.is, operation_member, operation_step) refl
