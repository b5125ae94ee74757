use Rattle.std.proofs.Common.{◌-◌, ap, arith}
use Rattle.ec_types.specs.Scopes.{at_process}
use Rattle.ec_types.proofs.Innermost.{change_set}
use Rattle.ec_types.proofs.scopes.scope.Scope.set_in_process.Goals as goal

pub returns-then-count-gt0 : goal.returns-then-count-gt0
returns-then-count-gt0 c =
    let self = c.args.self.now in
    let last = c.len-count.result - 1 in
    let object = c.at_mut-object.result.now in
    ap (λ os. record self { objects = os })
    (change_set at_process self.objects last object (omega arith) c.at_mut-object.ensures.value)
