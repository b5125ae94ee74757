use Rattle.std.proofs.Common.{◌≡◌, ◌-◌, ◌++◌}
use Rattle.ec_trial.specs.Draws.{entries_from, entry_count}
use Rattle.ec_trial.proofs.drawing.draw_entries.Given as goal

-- the entries from this one on are still to be drawn
abbrev pub invariant-loop : goal.invariant-loop
invariant-loop l =
    l.entries ++ entries_from (entry_count - l.counter) l.workers l.nodes l.generator.state
    ≡ entries_from entry_count l.workers l.nodes l.initial.generator.state
