-- The set of the members, listed in order.
use Rattle.std.proofs.Common.{◌∙◌}
use Rattle.std.proofs.lemmas.Result.{IfOk-weaker}
use Rattle.ec_cluster.proofs.Marking.{group_listed}
use Rattle.ec_cluster.proofs.seen.searching.members.Goals as goal

pub returns : goal.returns
returns c =
    let is = group_listed c.args.seen.now c.args.oid c.in_ok-found.found c.in_ok-found.ensures c.in_order.ensures.rising in
    IfOk-weaker c.in_order.result _ _ (λ v e. e ∙ is) c.in_order.ensures.items
