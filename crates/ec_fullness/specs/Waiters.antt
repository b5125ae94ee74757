-- Activations that wait for the one above them.
use Rattle.std.specs.Prelude.{◌≡◌, true, List}
use Rattle.std.specs.List.{AllByRecursion as Each}
use Rattle.ec_base.specs.Stack.{below_of}
use Rattle.ec_cluster.specs.Cluster.{CodeWorld}
use Rattle.ec_code.specs.declared.activation.CodeActivation.{CodeActivation}
use Rattle.ec_code.specs.Live.{stays}
use Rattle.ec_world.specs.declared.process.Proc.{Proc}

-- each of these activations rests at a stop behind which code goes on
abbrev pub AllStay : List CodeActivation → Type 0
AllStay below = Each (λ (a : CodeActivation). stays a.stop ≡ true) below

-- so does each activation of a process that is below another
abbrev pub BelowStay : Proc CodeActivation → Type 0
BelowStay proc = AllStay (below_of proc.activations)

abbrev pub WaitersStay : CodeWorld → Type 0
WaitersStay w = Each BelowStay w.processes
