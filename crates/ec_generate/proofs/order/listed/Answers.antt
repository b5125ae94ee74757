use Rattle.std.proofs.Common.{◌≡◌, ◌+◌, ◌++◌, ◌∷◌, ◌∙◌, [], suc, ap, arith, map}
use Rattle.std.proofs.lemmas.List.{map-append}
use Rattle.ec_generate.specs.Orders.{steps_below}
use Rattle.ec_generate.specs.declared.order.Spot.{Spot}
use Rattle.ec_generate.proofs.order.listed.Goals as goal

pub loop-step-preserved : goal.loop-step-preserved
loop-step-preserved c =
    let next : suc c.loop-step.step ≡ c.loop-step.step + 1 = omega arith in
    ap (map (λ (s : Spot). s.step)) c.in_ok-push.ensures.items
    ∙ map-append (λ (s : Spot). s.step) c.loop-step.spots.items (_ ∷ [])
    ∙ ap (λ l. l ++ c.loop-step.step ∷ []) c.loop-step.invariant ∙ ap steps_below next
