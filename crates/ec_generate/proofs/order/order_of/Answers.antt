use Rattle.std.proofs.Common.{◌∙◌, List, ℕ, ap, length, map, subst, sym}
use Rattle.std.specs.List.Sorted.{IsPermutation}
use Rattle.std.proofs.lemmas.List.Sorted.{IsPermutation-map}
use Rattle.ec_generate.proofs.Orders.{below_order, permuted}
use Rattle.ec_generate.specs.Orders.{steps_below}
use Rattle.ec_generate.specs.declared.order.Spot.{Spot}
use Rattle.ec_machine_code.specs.Layout.{IsOrder}
use Rattle.ec_generate.proofs.order.order_of.Goals as goal

pub returns : goal.returns
returns c =
    let step : Spot → ℕ = λ s. s.step in
    let n = length c.args.code.now in
    let moved = IsPermutation-map step c.in_ok-spots.spots.items c.sort.new.self.items c.sort.ensures.permutation in
    subst (IsOrder n) (sym (c.in_ok-order.ensures ∙ ap (map step) c.from_vec-sorted.ensures))
    (permuted n (steps_below n) (map step c.sort.new.self.items)
    (subst (λ (xs : List ℕ). IsPermutation xs (map step c.sort.new.self.items)) (c.in_ok-spots.ensures ∙ ap steps_below c.len.ensures) moved)
    (below_order n))
