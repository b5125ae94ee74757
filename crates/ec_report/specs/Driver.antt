-- Runs that are driven: what a driver's calls answer, and the end of a run.
use Rattle.std.specs.Prelude.{◌≡◌, ◌≤◌, ◌^◌, ℕ, List, length, nat_le, Option, None, slice_get}
use Rattle.ec_world.specs.declared.process.ProcStatus.{ProcStatus}
use Rattle.ec_world.specs.declared.run.Entry.{Entry}
use Rattle.ec_world.specs.declared.run.RunEntry.{RunEntry}
use Rattle.ec_world.specs.Run.{end_by}
use Rattle.ec_world.specs.declared.room.Part.{Part}
use Rattle.ec_report.specs.declared.end.ReportEnd.{ReportEnd}
use Rattle.ec_report.specs.declared.end.ReportEnd.TheVariants.{Ends, IsFull}
use Rattle.ec_report.specs.declared.driver.Refusal.{Refusal}
use Rattle.ec_report.specs.declared.driver.Refusal.TheVariants.{Full, Memory}
use Rattle.ec_report.specs.declared.step.Step.TheVariants.{Stops, Does}
use Rattle.ec_report.specs.Progress.{Progress, IsStep, advanced}

-- the end of a run whose next entry was refused
abbrev pub IsFullEnd : Refusal → ReportEnd → Type 0
IsFullEnd (Full node part need free) end = end ≡ IsFull node part need free
IsFullEnd Memory end = ⊥

-- By `Stands start schedule budget statuses progress state` the run from a start along a schedule, within a budget of entries,
-- comes to a state, where the processes have these statuses, and has not ended before. By `FindsFull start schedule k` the
-- entry behind k entries of that run finds a node full: the node, the part, what is needed there and what is free.
module _ {S : Type 0} (Stands : S → List Entry → ℕ → List ProcStatus → Progress → S → Type 0)
    (FindsFull : S → List Entry → ℕ → ℕ → Part → ℕ → ℕ → Type 0) where
  -- some run comes to a state
  pub record IsOnWay (state : S) : Type 0 where
    pub start : S
    pub schedule : List Entry
    pub budget : ℕ
    pub statuses : List ProcStatus
    pub progress : Progress
    pub stands : Stands start schedule budget statuses progress state

  -- and an entry is next there
  pub record IsNext (e : RunEntry) (state : S) : Type 0 where
    pub start : S
    pub schedule : List Entry
    pub budget : ℕ
    pub statuses : List ProcStatus
    pub progress : Progress
    pub stands : Stands start schedule budget statuses progress state
    pub next : IsStep statuses budget progress (Does e)

  -- this holds of the statuses in each run that comes to a state
  abbrev pub OfStatuses : S → (List ProcStatus → Type 0) → Type 0
  OfStatuses state Holds =
      (start : S) (schedule : List Entry) (budget : ℕ) (statuses : List ProcStatus) (progress : Progress)
      → Stands start schedule budget statuses progress state → Holds statuses

  -- this is the status of a process there; none, where there is no such process
  abbrev pub IsStatus : S → ℕ → Option ProcStatus → Type 0
  IsStatus state p found = OfStatuses state (λ statuses. found ≡ slice_get statuses p)

  -- there are more processes than numbers of 32 bits
  abbrev pub AreTooMany : S → Type 0
  AreTooMany state = OfStatuses state (λ statuses. 2 ^ 32 ≤ length statuses)

  -- each run in which an entry is next comes from one state to the other by it
  abbrev pub IsDone : RunEntry → S → S → Type 0
  IsDone e old new =
      (start : S) (schedule : List Entry) (budget : ℕ) (statuses : List ProcStatus) (progress : Progress)
      → Stands start schedule budget statuses progress old → IsStep statuses budget progress (Does e)
      → (after : List ProcStatus) × Stands start schedule budget after (advanced progress e) new

  -- in each run in which an entry is next, it finds a node full, and nothing is done
  abbrev pub IsRefused : RunEntry → S → S → Refusal → Type 0
  IsRefused e old new (Full node part need free) =
      (start : S) (schedule : List Entry) (budget : ℕ) (statuses : List ProcStatus) (progress : Progress)
      → Stands start schedule budget statuses progress old → IsStep statuses budget progress (Does e)
      → Stands start schedule budget statuses progress new × FindsFull start schedule progress.done node part need free
  IsRefused e old new Memory = Unit {0}

  -- how a run from a start ends at a place: by itself, or as its next entry finds a node full
  abbrev pub EndsAs : S → List Entry → ℕ → List ProcStatus → Progress → ReportEnd → Type 0
  EndsAs start schedule budget statuses progress (Ends how) = IsStep statuses budget progress (Stops how)
  EndsAs start schedule budget statuses progress (IsFull node part need free) =
      (end_by progress.left statuses (nat_le budget progress.done) ≡ None) × FindsFull start schedule progress.done node part need free

  -- the run from a start has come to its end at a state, after so many entries
  pub record HasEnded (start : S) (schedule : List Entry) (budget done : ℕ) (end : ReportEnd) (state : S) : Type 0 where
    pub statuses : List ProcStatus
    pub progress : Progress
    pub stands : Stands start schedule budget statuses progress state
    pub counted : done ≡ progress.done
    pub ends : EndsAs start schedule budget statuses progress end
