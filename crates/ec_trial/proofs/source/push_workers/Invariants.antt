use Rattle.std.proofs.Common.{◌≡◌, ◌-◌, ◌++◌, string_bytes}
use Rattle.ec_trial.specs.Texts.{worker_lines}
use Rattle.ec_trial.proofs.source.push_workers.Given as goal

-- the workers from this one on are still to be written
abbrev pub invariant-loop-i : goal.invariant-loop-i
invariant-loop-i l =
    string_bytes l.out ++ worker_lines l.i (l.workers - l.i) ≡ string_bytes l.initial.out ++ worker_lines 0 l.workers
