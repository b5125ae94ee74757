use Rattle.std.proofs.Common.{◌∙◌}
use Rattle.ec_judge.proofs.Scoped.{parameter_next, parameters_end}
use Rattle.ec_judge.proofs.holders.declare_parameters.Goals as goal

pub loop-p-preserved : goal.loop-p-preserved
loop-p-preserved c =
    parameter_next c.loop-p.scope c.declare.new.self c.in_ok-entry.field-0 c.in_ok-of.of c.args.parameters.now c.loop-p.p-index
    c.p-item.result c.loop-p-test.true
    c.p-item.is c.in_ok-of.ensures c.in_ok-entry.ensures c.in_ok-declare.ensures
    ∙ c.loop-p.invariant

pub returns : goal.returns
returns c = parameters_end c.loop-p.scope c.args.parameters.now c.loop-p.p-index c.loop-p-test.false ∙ c.loop-p.invariant
