use Rattle.std.proofs.Common.{◌≡◌, ◌++◌, ◌∷◌, [], sym, ◌∙◌, ap}
use Rattle.ec_world.proofs.Placement.{numbers_from-next}
use Rattle.ec_world.proofs.places.first_placement.Goals as goal

pub loop-k-preserved : goal.loop-k-preserved
loop-k-preserved c =
    let next = numbers_from-next c.loop-k.k in
    let pushed : c.push.new.self.items ≡ c.loop-k.placement.items ++ c.loop-k.k ∷ [] = cc (c.in_ok-push.ensures.items) in
    pushed ∙ ap (λ ks. ks ++ c.loop-k.k ∷ []) c.loop-k.invariant ∙ sym next
