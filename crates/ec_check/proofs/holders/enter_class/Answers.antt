use Rattle.std.proofs.Common.{◌∙◌, sym, ap}
use Rattle.ec_check.proofs.Classes.{class_entered, same_holder}
use Rattle.ec_rules.specs.Members.{scope_of}
use Rattle.ec_check.proofs.holders.enter_class.Goals as goal

pub returns-clause-scope : goal.returns-clause-scope
returns-clause-scope c =
    ap (λ s. record c.args.r.now { walk = record c.args.r.now.walk { scope = s } })
    (c.in_ok-enter_body.ensures ∙ ap (scope_of c.args.r.now.walk.scope) (sym (same_holder c.args.heading c.args.body.now)))

pub returns-clause-class : goal.returns-clause-class
returns-clause-class c =
    class_entered c.args.r.now.walk.scope c.args.captures.now c.args.heading c.args.body.now c.enter_body.new.scope
    c.number_at-number.result
    c.in_ok-from_slice.field-0 c.in_ok-captured.captured c.new-fields.result c.add_parameters.new.fields c.add_fields.new.fields
    c.as_slice.result.now c.as_slice-3.result.now c.count_conditions.result
    c.in_ok-enter_body.ensures c.number_at-number.ensures (c.in_ok-from_slice.ensures ∙ c.as_slice-2.ensures)
    c.in_ok-captured.ensures c.new-fields.ensures
    c.in_ok-add_parameters.ensures c.as_slice.ensures c.in_ok-add_fields.ensures c.as_slice-3.ensures c.count_conditions.ensures
