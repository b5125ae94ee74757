use Rattle.std.proofs.Common.{◌≡◌, ◌-◌, drop, map, reverse}
use Rattle.ec_world.proofs.granting.owns_of.Given as goal

-- the activations down to this one
abbrev pub invariant-loop-i : goal.invariant-loop-i
invariant-loop-i g l = l.owns ≡ reverse (map g.A.Activation.meaning.own (drop (l.count - l.i) l.activations))
