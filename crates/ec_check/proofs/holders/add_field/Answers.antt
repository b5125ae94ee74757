use Rattle.std.proofs.Common.{sym}
use Rattle.std.proofs.lemmas.List.{append-nil}
use Rattle.ec_check.proofs.Equations.{variable_member, constant_member, condition_member, operation_member}
use Rattle.ec_check.proofs.Fusion.{same_part}
use Rattle.ec_check.proofs.holders.add_field.Goals as goal

pub returns-in_ok-written-in-Variable : goal.returns-in_ok-written-in-Variable
returns-in_ok-written-in-Variable c = rw (c.in-Variable.is, variable_member, ← c.in_ok-written-in-Variable.ensures) c.push.ensures.ok

pub returns-in_ok-constant_type-in-Constant : goal.returns-in_ok-constant_type-in-Constant
returns-in_ok-constant_type-in-Constant c =
    rw (c.in-Constant.is, constant_member, same_part, ← c.form_of.ensures, ← c.in_ok-constant_type-in-Constant.ensures, ← c.type_or.ensures)
    c.push-in-Constant.ensures.ok

pub returns-in-Condition : goal.returns-in-Condition
returns-in-Condition c = rw (c.in-Condition.is, condition_member) (sym (append-nil _))

pub returns-in-Operation : goal.returns-in-Operation
returns-in-Operation c = rw (c.in-Operation.is, operation_member) (sym (append-nil _))
