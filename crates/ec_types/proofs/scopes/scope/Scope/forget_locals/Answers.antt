use Rattle.std.proofs.Common.{◌-◌, ap, ◌∙◌, arith}
use Rattle.std.specs.Prelude.{slice_set}
use Rattle.ec_types.specs.Scopes.{first_locals}
use Rattle.ec_types.proofs.Innermost.{change_set}
use Rattle.ec_types.proofs.scopes.scope.Scope.forget_locals.Goals as goal

pub returns-then-objects-gt0 : goal.returns-then-objects-gt0
returns-then-objects-gt0 c =
    let objects = c.args.self.now.objects in
    let object = c.at_mut-object.result.now in
    let last = c.len-objects.result - 1 in
    ap (λ os. record c.args.self.now { objects = os })
    (ap (λ locals. slice_set objects last (record object { locals = locals })) c.truncate.ensures
    ∙ change_set (first_locals c.args.count) objects last object (omega arith) c.at_mut-object.ensures.value)
