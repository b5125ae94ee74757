use Rattle.std.proofs.Common.{◌≡◌, ℕ, List, [], ◌∷◌, ◌++◌, ap, ◌∙◌}
use Rattle.ec_world.proofs.Dropping.{one_down}
use Rattle.ec_world.proofs.granting.owns_of.Goals as goal

pub loop-i-preserved : goal.loop-i-preserved
loop-i-preserved g c =
    let M = g.A.Activation.meaning in
    let new : c.push.new.self ≡ c.loop-i.owns ++ M.own c.at.result.now ∷ [] = cc (c.in_ok-push.ensures.ok, c.own.ensures) in
    new
    ∙ ap (λ (os : List ℕ). os ++ M.own c.at.result.now ∷ []) c.loop-i.invariant
    ∙ one_down M.own c.args.activations.now c.len-count.result c.loop-i.i c.at.result.now c.loop-i-test.true c.at.ensures
