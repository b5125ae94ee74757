use Rattle.std.proofs.Common.{ℕ, ◌-◌, ap, sym, ◌∙◌}
use Rattle.std.proofs.lemmas.Result.{on_ok_weaker}
use Rattle.ec_world.specs.declared.stop.Who.{Who}
use Rattle.ec_world.specs.Doings.{Asked, doing_of}
use Rattle.ec_world.specs.Sights.{sight_of}
use Rattle.ec_world.proofs.Acting.{outcome_read, action_after, came}
use Rattle.ec_world.proofs.world.World.act.Goals as goal

pub returns : goal.returns
returns g c =
    let M = g.A.Activation.meaning in
    let w = c.args.self.now in
    let can = c.in-Some.ensures.some.0 in
    let depth = c.in_ok-number_of.ensures ∙ ap (λ (n : ℕ). n - 1) c.len.ensures in
    let e = outcome_read M w c.args.p can c.in-Some.activations.now c.last-top.result.now c.in_ok-number_of.field-0
    c.operation.result c.own.result c.stop-stop.result c.in_ok-operands.operands c.in-Some.ensures.some.1 c.last-top.ensures
    depth c.operation.ensures c.own.ensures c.stop-stop.ensures c.in_ok-operands.ensures in
    let who : Who = record { process = c.args.p; depth = c.in_ok-number_of.field-0; operation = c.operation.result; own = c.own.result } in
    let asked : Asked = doing_of (sight_of w.common) who c.stop-stop.result c.in_ok-operands.operands in
    let f = came w.common c.done.new.self who c.in_ok-doing.field-0 asked c.in-Some-2.doing c.in_ok-outcome.outcome
    c.in_ok-doing.ensures (let i = c.in-Some-2.is in cc) c.in_ok-outcome.ensures in
    on_ok_weaker c.settle.result
    (action_after M w c.args.p can c.done.new.self c.in_ok-outcome.outcome c.settle.new.self (sym e ∙ f))
    c.settle.ensures
