use Rattle.std.proofs.Common.{◌≡◌, suc, ◌++◌, drop}
use Rattle.ec_code.specs.Fine.{live_at}
use Rattle.ec_machine_code.specs.Stops.{without}
use Rattle.ec_generate.proofs.entries.live_of.Given as goal

abbrev pub invariant-loop-one : goal.invariant-loop-one
invariant-loop-one l =
    l.live ++ without l.row.into (drop l.one-index (live_at l.code (suc l.q))) ≡ without l.row.into (live_at l.code (suc l.q))
