use Rattle.std.proofs.Common.{refl, arith}
use Rattle.ec_check.proofs.Equations.{variable_member, constant_member, condition_member, operation_member}
use Rattle.ec_check.proofs.holders.condition_count.Goals as goal

pub returns-in-Condition : goal.returns-in-Condition
returns-in-Condition c = record { count = rw (c.in-Condition.is, condition_member) refl; few = omega arith }

pub returns-in-Variable : goal.returns-in-Variable
returns-in-Variable c = record { count = rw (c.in-Variable.is, variable_member) refl; few = omega arith }

pub returns-in-Constant : goal.returns-in-Constant
returns-in-Constant c = record { count = rw (c.in-Constant.is, constant_member) refl; few = omega arith }

pub returns-in-Operation : goal.returns-in-Operation
returns-in-Operation c = record { count = rw (c.in-Operation.is, operation_member) refl; few = omega arith }
