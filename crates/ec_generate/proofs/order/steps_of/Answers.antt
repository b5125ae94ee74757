use Rattle.std.proofs.Common.{◌+◌, ◌++◌, ◌∷◌, ◌∙◌, [], ap, sym, append_assoc, drop, map}
use Rattle.ec_base.proofs.Lists.{drop_at}
use Rattle.ec_generate.specs.declared.order.Spot.{Spot}
use Rattle.ec_generate.proofs.order.steps_of.Goals as goal

pub loop-k-preserved : goal.loop-k-preserved
loop-k-preserved c =
    let rest = map (λ (s : Spot). s.step) (drop (c.loop-k.k + 1) c.args.spots.now) in
    ap (λ l. l ++ rest) c.in_ok-push.ensures.ok ∙ append_assoc c.loop-k.steps (c.at.result.now.step ∷ []) rest
    ∙ sym (ap (λ l. c.loop-k.steps ++ map (λ (s : Spot). s.step) l) (drop_at c.args.spots.now c.loop-k.k c.at.result.now c.at.ensures))
    ∙ c.loop-k.invariant
