use Rattle.std.proofs.Common.{◌≡◌, sym, ap, subst}
use Rattle.std.specs.Prelude.{IfOk}
use Rattle.ec_code.specs.declared.code.Operand.{Operand}
use Rattle.ec_emission.specs.Expressions.{operand_or}
use Rattle.ec_expressions.proofs.Codes.{leaf_of}
use Rattle.ec_expressions.proofs.emitter.Emitter.operand.Goals as goal

pub returns : goal.returns
returns c =
    subst (λ (y : Operand). IfOk c.operand_by_form.result (λ o. o ≡ y))
    (ap (operand_or c.args.h) (sym (leaf_of c.args.self.now c.args.x.now))) c.operand_by_form.ensures
