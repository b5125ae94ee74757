use Rattle.std.proofs.Common.{◌≡◌, ◌++◌, drop, string_bytes}
use Rattle.ec_trial.specs.Texts.{entry_lines}
use Rattle.ec_trial.proofs.schedule.write_schedule.Given as goal

-- the entries from this one on are still to be written
abbrev pub invariant-loop-entry : goal.invariant-loop-entry
invariant-loop-entry l =
    string_bytes l.out ++ entry_lines (drop l.entry-index l.drawn.entries) ≡ entry_lines l.drawn.entries
