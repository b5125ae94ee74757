use Rattle.std.proofs.Common.{◌≡◌, IfOk, sym, subst}
use Rattle.ec_emission.specs.Expressions.{Condition}
use Rattle.ec_expressions.proofs.Codes.{condition_of}
use Rattle.ec_expressions.specs.Emitting.{asks}
use Rattle.ec_expressions.proofs.emitter.Emitter.asked.Goals as goal

pub returns : goal.returns
returns c =
    subst (λ (k : Condition). IfOk c.asked_by_form.result (λ a. a ≡ asks k))
    (sym (condition_of c.args.self.now c.args.x.now c.args.h)) c.asked_by_form.ensures
