use Rattle.std.proofs.Common.{ap, ◌∙◌}
use Rattle.ec_judge.proofs.Walks.{walked_scope}
use Rattle.ec_judge.specs.declared.walk.Walk.{Walk}
use Rattle.ec_check.proofs.expressions.compared_in.Goals as goal

pub returns-clause-scope : goal.returns-clause-scope
returns-clause-scope c = ap (λ (w : Walk). w.scope) c.in_ok-v.ensures.walk ∙ walked_scope c.args.walk.now _ _
