use Rattle.std.proofs.Common.{◌≡◌, ◌++◌, ◌-◌, replicate}
use Rattle.ec_code.specs.Activations.{opened}
use Rattle.ec_world.specs.declared.value.Value.TheVariants.{Nil}
use Rattle.ec_stepping.proofs.code.open.Given as goal

-- so many are still to be opened
abbrev pub invariant-loop-n : goal.invariant-loop-n
invariant-loop-n l = l.variables ++ replicate (l.count - l._n) Nil ≡ opened l.initial.variables l.count
