use Rattle.std.proofs.Common.{◌-◌, [], ◌∷◌, ap, ◌∙◌, arith}
use Rattle.std.specs.Prelude.{slice_set}
use Rattle.ec_types.specs.Scopes.{with_locals}
use Rattle.ec_types.proofs.Innermost.{change_set}
use Rattle.ec_types.proofs.scopes.scope.Scope.declare.Goals as goal

pub returns : goal.returns
returns c =
    let objects = c.args.self.now.objects in
    let object = c.at_mut-object.result.now in
    let last = c.len-count.result - 1 in
    ap (λ os. record c.args.self.now { objects = os })
    (ap (λ locals. slice_set objects last (record object { locals = locals })) c.in_ok-push.ensures.added
    ∙ change_set (with_locals (c.args.entry ∷ [])) objects last object (omega arith) c.at_mut-object.ensures.value)
