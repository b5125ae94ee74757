use Rattle.std.proofs.Common.{◌≡◌, ◌-◌, ◌++◌}
use Rattle.ec_trial.specs.Draws.{kinds_from, state_after}
use Rattle.ec_trial.proofs.drawing.draw_kinds.Given as goal

-- the kinds from this one on are still to be drawn
abbrev pub invariant-loop : goal.invariant-loop
invariant-loop l = record {
  kinds : l.kinds ++ kinds_from (l.nodes - l.counter) l.generator.state ≡ kinds_from l.nodes l.initial.generator.state;
  state : l.generator.state ≡ state_after l.counter l.initial.generator.state;
}
