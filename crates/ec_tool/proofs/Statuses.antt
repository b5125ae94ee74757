-- The statuses with which commands end, and which of them they are not.
use Rattle.std.proofs.Common.{◌≡◌, ℕ, Bool, true, false, List, length}
use Rattle.ec_tool.specs.Asked.{ComesTo}
use Rattle.ec_tool.specs.Promises.{IsRunStatus, IsPlainStatus, EndsWith, IsRun}
use Rattle.ec_tool.specs.Promises.IsRunStatus.{Finishes, Fails, Spends, Fills, Sticks}
use Rattle.ec_tool.specs.Promises.IsRun.{OfFiles, OfTrial}
use Rattle.ec_tool.specs.Promises.{IsPlainStatus as plainly}
use Rattle.ec_inputs.specs.Words.{CommandWords}
use Rattle.ec_inputs.specs.Words.{CommandWords as command}
use Rattle.ec_meaning.specs.Programs.{Source as Meant}
use Rattle.ec_native_run.specs.Runs.{Net, RunsTo}
use Rattle.ec_native_run.specs.Runs.RunsTo.{LoadIsFull, RanUntil}
use Rattle.ec_plain.specs.Plain.{IsPlainRun, source_run}
use Rattle.ec_report.specs.Status.{any_failed, finished_status, status_of}
use Rattle.ec_report.specs.declared.end.ReportEnd.{ReportEnd}
use Rattle.ec_report.specs.declared.end.ReportEnd.TheVariants.{Ends, IsFull}
use Rattle.ec_report.specs.declared.status.Status.{Status}
use Rattle.ec_report.specs.declared.status.Status.TheVariants as statuses
use Rattle.ec_world.specs.Run.{statuses_of}
use Rattle.ec_world.specs.declared.class.VectorType.{VectorType}
use Rattle.ec_world.specs.declared.node.NodeSpec.{NodeSpec}
use Rattle.ec_world.specs.declared.process.ProcStatus.{ProcStatus}
use Rattle.ec_world.specs.declared.run.Entry.{Entry}
use Rattle.ec_world.specs.declared.run.RunEnd.{RunEnd}
use Rattle.ec_world.specs.declared.run.RunEnd.TheVariants.{Finished, Stuck, Spent}

-- ---- the status of an end

status_ends : (b : Bool) → IsRunStatus (finished_status b)
status_ends true = Fails
status_ends false = Finishes

run_status_of : (ss : List ProcStatus) (how : ReportEnd) → IsRunStatus (status_of ss how)
run_status_of ss (Ends Finished) = status_ends (any_failed ss)
run_status_of ss (Ends Stuck) = Sticks
run_status_of ss (Ends Spent) = Spends
run_status_of ss (IsFull node part need free) = Fills

run_status : {meant : Meant} {vectors : List VectorType} {specs : List NodeSpec} {entries : List Entry} {budget : ℕ} {net net' : Net} {status : Status}
    {text : List ℕ} →
    RunsTo meant vectors specs entries budget net net' status text → IsRunStatus status
run_status (LoadIsFull p node need free part l f n) = Fills
run_status {meant} {vectors} {specs} {entries} (RanUntil p k how l room quiet e r) =
    run_status_of (statuses_of (source_run meant (length specs) entries k).world) how

plain_ends : (b : Bool) → IsPlainStatus (finished_status b)
plain_ends true = plainly.Fails
plain_ends false = plainly.Finishes

plain_status_of : (ss : List ProcStatus) (how : RunEnd) → IsPlainStatus (status_of ss (Ends how))
plain_status_of ss Finished = plain_ends (any_failed ss)
plain_status_of ss Stuck = plainly.Sticks
plain_status_of ss Spent = plainly.Spends

plain_status : (meant : Meant) (specs : List NodeSpec) (entries : List Entry) (budget : ℕ) (status : Status) (text : List ℕ) →
    IsPlainRun meant specs entries budget status text → IsPlainStatus status
plain_status meant specs entries budget status text r =
    rw r.status_is (plain_status_of (statuses_of (source_run meant (length specs) entries r.entries).world) r.how)

-- what a source comes to on nodes has the status of an end of its command
pub ends_with : (asked : CommandWords) (source : List ℕ) (specs : List NodeSpec) (entries : List Entry) (net net' : Net)
    (status : Status) (text : List ℕ) →
    ComesTo asked source specs entries net net' status text → EndsWith asked status
ends_with (command.Run run) source specs entries net net' status text c = run_status c.2
ends_with (command.Mean mean) source specs entries net net' status text c = plain_status c.0 specs entries mean.budget status text c.2
ends_with (command.Check check) source specs entries net net' status text c = absurd c
ends_with (command.Trial number) source specs entries net net' status text c = run_status c.2

run_status_from : {status : Status} → IsPlainStatus status → IsRunStatus status
run_status_from plainly.Finishes = Finishes
run_status_from plainly.Fails = Fails
run_status_from plainly.Spends = Spends
run_status_from plainly.Sticks = Sticks

-- each end of a command is one of a run's
pub end_status : (asked : CommandWords) (status : Status) → EndsWith asked status → IsRunStatus status
end_status (command.Run run) status e = e
end_status (command.Mean mean) status e = run_status_from e
end_status (command.Check check) status e = rw e Finishes
end_status (command.Trial number) status e = e

never_full : {status : Status} → IsPlainStatus status → status ≡ statuses.Full → ⊥
never_full plainly.Finishes e = cc
never_full plainly.Fails e = cc
never_full plainly.Spends e = cc
never_full plainly.Sticks e = cc

-- only a run ends with a full node
pub full_is_run : (asked : CommandWords) (source : List ℕ) (specs : List NodeSpec) (entries : List Entry) (net net' : Net)
    (status : Status) (text : List ℕ) →
    ComesTo asked source specs entries net net' status text → status ≡ statuses.Full → IsRun asked
full_is_run (command.Run run) source specs entries net net' status text c e = OfFiles run
full_is_run (command.Mean mean) source specs entries net net' status text c e =
    absurd (never_full (plain_status c.0 specs entries mean.budget status text c.2) e)
full_is_run (command.Check check) source specs entries net net' status text c e = absurd c
full_is_run (command.Trial number) source specs entries net net' status text c e = OfTrial number

-- ---- statuses apart

-- a status that says that the files were judged
pub data IsByFiles : Status → Type 0 where
  RefusesSource : IsByFiles statuses.SourceRefused
  RefusesInput : IsByFiles statuses.InputRefused
  Ended : (status : Status) → IsRunStatus status → IsByFiles status

-- a status that neither a fault of the sink nor want of memory gives
pub record IsTold (s : Status) : Type 0 where
  pub not_write : s ≡ statuses.WriteFault → ⊥
  pub not_memory : s ≡ statuses.NoMemory → ⊥

-- nor words that are no command, nor a fault of the shelf
pub record IsOfFiles (s : Status) : Type 0 where
  pub told : IsTold s
  pub not_usage : s ≡ statuses.Usage → ⊥
  pub not_read : s ≡ statuses.ReadFault → ⊥

-- nor files that are refused
pub record IsOfEnd (s : Status) : Type 0 where
  pub files : IsOfFiles s
  pub not_source : s ≡ statuses.SourceRefused → ⊥
  pub not_input : s ≡ statuses.InputRefused → ⊥

pub run_apart : {s : Status} → IsRunStatus s → IsOfEnd s
run_apart Finishes =
    record {
      files =
          record { told = record { not_write = λ e. cc; not_memory = λ e. cc }; not_usage = λ e. cc; not_read = λ e. cc };
      not_source = λ e. cc;
      not_input = λ e. cc;
    }
run_apart Fails =
    record {
      files =
          record { told = record { not_write = λ e. cc; not_memory = λ e. cc }; not_usage = λ e. cc; not_read = λ e. cc };
      not_source = λ e. cc;
      not_input = λ e. cc;
    }
run_apart Spends =
    record {
      files =
          record { told = record { not_write = λ e. cc; not_memory = λ e. cc }; not_usage = λ e. cc; not_read = λ e. cc };
      not_source = λ e. cc;
      not_input = λ e. cc;
    }
run_apart Fills =
    record {
      files =
          record { told = record { not_write = λ e. cc; not_memory = λ e. cc }; not_usage = λ e. cc; not_read = λ e. cc };
      not_source = λ e. cc;
      not_input = λ e. cc;
    }
run_apart Sticks =
    record {
      files =
          record { told = record { not_write = λ e. cc; not_memory = λ e. cc }; not_usage = λ e. cc; not_read = λ e. cc };
      not_source = λ e. cc;
      not_input = λ e. cc;
    }

pub files_apart : {s : Status} → IsByFiles s → IsOfFiles s
files_apart RefusesSource = record { told = record { not_write = λ e. cc; not_memory = λ e. cc }; not_usage = λ e. cc; not_read = λ e. cc }
files_apart RefusesInput = record { told = record { not_write = λ e. cc; not_memory = λ e. cc }; not_usage = λ e. cc; not_read = λ e. cc }
files_apart (Ended s r) = (run_apart r).files
