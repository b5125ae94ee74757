use Rattle.std.proofs.Common.{◌≡◌, sym, ap, ◌∙◌}
use Rattle.std.proofs.lemmas.Result.{on_ok_weaker}
use Rattle.ec_world.specs.World.{all_readied}
use Rattle.ec_world.proofs.Acting.{settled_read, some_top}
use Rattle.ec_world.proofs.world.World.settle.Goals as goal

pub returns : goal.returns
returns g c =
    let M = g.A.Activation.meaning in
    let w = c.args.self.now in
    let same : c.at.result.now ≡ c.at_mut-process.result.now = (let a = c.at.ensures in let b = c.at_mut-process.ensures.value in cc) in
    let readied =
    c.ready_each.ensures
    ∙ ap (all_readied c.ready_granted.new.processes) c.as_slice.ensures
    ∙ sym (c.ready_granted.ensures c.in_ok-freed.freed) in
    let (top, e) = some_top M w c.args.p c.requires in
    on_ok_weaker c.begin.result
    (λ b. settled_read M w c.args.p top c.args.outcome c.at.result.now c.take_effect.new.self c.give_up.new.objects
    c.in_ok-freed.freed e c.at.ensures c.ready_each.new.processes c.begin.new.processes c.in_ok-freed.ensures
    (rw same c.in_ok-take_effect.ensures) readied b)
    c.begin.ensures
