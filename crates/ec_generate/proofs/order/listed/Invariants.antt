use Rattle.std.proofs.Common.{◌≡◌, map}
use Rattle.ec_generate.specs.Orders.{steps_below}
use Rattle.ec_generate.proofs.order.listed.Given as goal

abbrev pub invariant-loop-step : goal.invariant-loop-step
invariant-loop-step l = map (λ s. s.step) l.spots.items ≡ steps_below l.step
