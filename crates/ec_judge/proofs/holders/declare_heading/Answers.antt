use Rattle.std.proofs.Common.{◌≡◌, OnOk, subst}
use Rattle.ec_judge.proofs.Scoped.{result_declared}
use Rattle.ec_judge.proofs.holders.declare_heading.Goals as goal

pub returns-in_ok-entry-in-Some : goal.returns-in_ok-entry-in-Some
returns-in_ok-entry-in-Some c =
    rw c.in-Some.is
    (subst (λ x. OnOk c.declare.result (c.declare.new.self ≡ x))
    (result_declared c.args.scope.now c.declare_parameters.new.scope c.in_ok-entry-in-Some.field-0 c.in_ok-of-in-Some.of
    c.args.parameters.now c.in-Some.p
    c.in_ok-declare_parameters.ensures c.in_ok-of-in-Some.ensures c.in_ok-entry-in-Some.ensures)
    c.declare.ensures)
