use Rattle.std.proofs.Common.{ap, ◌∙◌}
use Rattle.ec_judge.proofs.Walks.{walked_scope}
use Rattle.ec_judge.specs.declared.walk.Walk.{Walk}
use Rattle.ec_check.proofs.chains.receiver_before.Goals as goal

pub returns-in_ok-v-in-None-clause-scope : goal.returns-in_ok-v-in-None-clause-scope
returns-in_ok-v-in-None-clause-scope c =
    ap (λ (w : Walk). w.scope) c.in_ok-v-in-None.ensures.walk ∙ walked_scope c.args.walk.now _ _
