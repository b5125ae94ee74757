use Rattle.std.proofs.Common.{◌≡◌, ◌≤◌, ◌+◌, length}
use Rattle.std.specs.Str.Lines.{lines}
use Rattle.ec_inputs.specs.Schedules.{longest, entries_from}
use Rattle.ec_inputs.proofs.Lines.{after}
use Rattle.ec_inputs.proofs.schedule.entries_in.Given as goal

abbrev pub invariant-loop-rest : goal.invariant-loop-rest
invariant-loop-rest l =
    (after l.entries.items (entries_from l.number (lines l.rest)) ≡ entries_from 1 (lines l.bytes))
    × (l.number + length l.rest ≤ longest + 1)

abbrev pub decreases-loop-rest : goal.decreases-loop-rest
decreases-loop-rest l = length l.rest
