use Rattle.std.proofs.Common.{◌≡◌, drop}
use Rattle.ec_code.specs.Steps.{variables_at}
use Rattle.ec_stepping.specs.Stepping.{as_machine}
use Rattle.ec_stepping.proofs.Taken.{behind}
use Rattle.ec_stepping.proofs.reading.values.Given as goal

-- those from this one on are still to be taken
abbrev pub invariant-loop-n : goal.invariant-loop-n
invariant-loop-n l = behind l.found (variables_at (as_machine l.m) (drop l.n l.xs)) ≡ variables_at (as_machine l.m) l.xs
