-- What a plain run of a source comes to.
use Rattle.std.specs.Prelude.{◌≡◌, ℕ, List, [], length}
use Rattle.ec_meaning.specs.Activations.{source_meaning}
use Rattle.ec_meaning.specs.ClassNames.{class_name}
use Rattle.ec_meaning.specs.Meaning.{source_silent, source_start}
use Rattle.ec_meaning.specs.Programs.{Source}
use Rattle.ec_meaning.specs.declared.activation.SourceActivation.{SourceActivation}
use Rattle.ec_report.specs.Report.{report}
use Rattle.ec_report.specs.Status.{status_of}
use Rattle.ec_report.specs.declared.end.ReportEnd.TheVariants.{Ends}
use Rattle.ec_report.specs.declared.status.Status.{Status}
use Rattle.ec_world.specs.Run.{Run, RunState, run_after, statuses_of}
use Rattle.ec_world.specs.declared.node.NodeSpec.{NodeSpec}
use Rattle.ec_world.specs.declared.run.Entry.{Entry}
use Rattle.ec_world.specs.declared.run.RunEnd.{RunEnd}

-- the run of a source on n nodes along a schedule, after so many entries
abbrev pub source_run : Source → ℕ → List Entry → ℕ → RunState SourceActivation
source_run s n schedule k = run_after source_meaning (source_silent s) (source_start s n) schedule k

-- The run of a source on nodes along a schedule, within a budget of entries, has ended after so many of them; its status, and its
-- report without lines of nodes.
pub record IsPlainRun (s : Source) (specs : List NodeSpec) (schedule : List Entry) (budget : ℕ) (status : Status) (text : List ℕ) :
    Type 0 where
  pub entries : ℕ
  pub how : RunEnd
  pub run : Run source_meaning (source_silent s) (source_start s (length specs)) schedule budget entries
      (source_run s (length specs) schedule entries) how
  pub status_is : status ≡ status_of (statuses_of (source_run s (length specs) schedule entries).world) (Ends how)
  pub text_is : text ≡ report (class_name s) (source_run s (length specs) schedule entries).world specs [] entries (Ends how)
