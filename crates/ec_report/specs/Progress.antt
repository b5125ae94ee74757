-- How far a run is along its schedule, and what comes next.
use Rattle.std.specs.Prelude.{◌≡◌, ℕ, ◌+◌, ◌<◌, List, nat_le, Option, Some, None}
use Rattle.ec_world.specs.declared.process.ProcStatus.{ProcStatus}
use Rattle.ec_world.specs.declared.run.Entry.{Entry}
use Rattle.ec_world.specs.declared.run.RunEntry.{RunEntry}
use Rattle.ec_world.specs.Run.{end_by, expanded, last_of, next_entry, tail_of}
use Rattle.ec_report.specs.declared.step.Step.{Step}
use Rattle.ec_report.specs.declared.step.Step.TheVariants.{Stops, Does}

-- what is left of the schedule, the process of the last turn, and how many entries are done
pub record Progress : Type 0 where
  pub left : List RunEntry
  pub last : Option ℕ
  pub done : ℕ

-- at the start
abbrev pub at_start : List Entry → Progress
at_start schedule = record { left = expanded schedule; last = None; done = 0 }

-- one entry further
abbrev pub advanced : Progress → RunEntry → Progress
advanced c e = record { left = tail_of c.left; last = last_of e c.last; done = c.done + 1 }

-- What comes next, by the statuses of the processes and the budget: the end of the run, or an entry, for which the budget
-- isn't spent.
abbrev pub IsStep : List ProcStatus → (budget : ℕ) → Progress → Step → Type 0
IsStep statuses budget c (Stops how) = end_by c.left statuses (nat_le budget c.done) ≡ Some how
IsStep statuses budget c (Does e) =
    (end_by c.left statuses (nat_le budget c.done) ≡ None) × (next_entry c.left statuses c.last ≡ Some e) × (c.done < budget)
