use Rattle.ec_expressions.proofs.Whole.{on_ok, whole}
use Rattle.ec_expressions.proofs.emitter.Emitter.+expressions.Goals as goal

pub expression-returns : goal.expression-returns
expression-returns t c =
    on_ok c.operands.result
    (whole c.args.self.now c.args.x.now c.args.h c.args.out.now c.step.new.out c.parts.new.out c.operands.new.out
    c.in_ok-step.ensures c.in_ok-parts.ensures)
    c.operands.ensures
