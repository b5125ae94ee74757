use Rattle.std.proofs.Common.{◌≡◌, ◌++◌, OnOk, sym, subst}
use Rattle.ec_emission.specs.Expressions.{Condition}
use Rattle.ec_expressions.proofs.Codes.{condition_of}
use Rattle.ec_expressions.proofs.emitter.Emitter.condition.Goals as goal

pub returns : goal.returns
returns c =
    subst
    (λ (k : Condition). OnOk c.condition_by_form.result (c.condition_by_form.new.out ≡ k.code ++ c.args.out.now))
    (sym (condition_of c.args.self.now c.args.x.now c.args.h)) c.condition_by_form.ensures
