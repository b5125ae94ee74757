-- What a call comes to, by the table of answers: a case a row, each where no earlier one came.
use Rattle.std.specs.Prelude.{◌≡◌, ℕ, List, Option, Some, None, Ok, Err}
use Rattle.ec_tool.specs.Asked.{HasRead, StopsAt, TakesToNodes, Checks, ComesTo}
use Rattle.ec_tool.specs.Lines.{usage_line, fault_line}
use Rattle.ec_tool.specs.Writing.{ComesOut}
use Rattle.ec_tool.specs.declared.file.FileOf.{FileOf}
use Rattle.ec_tool.specs.declared.file.FileOf.TheVariants.{Source, Nodes, Schedule}
use Rattle.ec_inputs.specs.Nodes.{NodesOf}
use Rattle.ec_inputs.specs.Schedules.{EntriesOf}
use Rattle.ec_inputs.specs.Words.{CommandWords, WordsOf}
use Rattle.ec_inputs.specs.declared.nodes.NodeRule.{NodeRule}
use Rattle.ec_inputs.specs.declared.schedule.ScheduleRule.{ScheduleRule}
use Rattle.ec_native_run.specs.Runs.{Net}
use Rattle.ec_report.specs.declared.status.Status.{Status}
use Rattle.ec_report.specs.declared.status.Status.TheVariants as statuses
use Rattle.ec_tool.specs.Refusals.{nodes_line, schedule_line}
use Rattle.ec_tool.specs.Sources.{IsFaulty, accepted_line, refused_line}
use Rattle.ec_tool.specs.declared.source.Refusal.{Refusal}
use Rattle.ec_world.specs.declared.node.NodeSpec.{NodeSpec}
use Rattle.ec_world.specs.declared.run.Entry.{Entry}

-- ---- by what the files hold

-- What a command whose files were read, or whose texts were made, comes to: its status and its text, by what these hold, and the network
-- before and after.
pub data Judged (asked : CommandWords) (held : FileOf → List ℕ) (net net' : Net) : Status → List ℕ → Type 0 where
  SourceRefused : (refusal : Refusal) (at : ℕ) → IsFaulty (held Source) refusal at → net' ≡ net →
      Judged asked held net net' statuses.SourceRefused (refused_line (held Source) refusal at)
  NodesRefused : (rule : NodeRule) → TakesToNodes asked (held Source) → NodesOf (held Nodes) ≡ Err rule → net' ≡ net →
      Judged asked held net net' statuses.InputRefused (nodes_line rule)
  ScheduleRefused : (specs : List NodeSpec) (rule : ScheduleRule) (line : Option ℕ) → TakesToNodes asked (held Source) →
      NodesOf (held Nodes) ≡ Ok specs →
      EntriesOf (held Schedule) ≡ Err (rule, line) → net' ≡ net →
      Judged asked held net net' statuses.InputRefused (schedule_line rule line)
  -- a run, a plain meaning or a trial comes to its end
  IsEnded : (specs : List NodeSpec) (entries : List Entry) (status : Status) (text : List ℕ) → NodesOf (held Nodes) ≡ Ok specs →
      EntriesOf (held Schedule) ≡ Ok entries → ComesTo asked (held Source) specs entries net net' status text →
      Judged asked held net net' status text
  -- a check accepts its source
  Accepts : Checks asked (held Source) → net' ≡ net → Judged asked held net net' statuses.Finished accepted_line

-- ---- before anything is written

-- A call before its text is written: its words, what the files of the shelf hold, the names with counts of their own there, the
-- counts of the shelf's faults before and after, and the network before and after.
pub record Call : Type 0 where
  pub words : List (List ℕ)
  pub content : List ℕ → Option (List ℕ)
  pub kept : List (List ℕ)
  pub faults : List ℕ → ℕ
  pub faults_after : List ℕ → ℕ
  pub net : Net
  pub net_after : Net

-- What a call comes to: its status and its text. No count of the shelf's faults has risen but where a read failed, and there but one.
pub data Verdict (Told : Type 0) (call : Call) : Status → List ℕ → Type 0 where
  NoCommand : WordsOf call.words ≡ None → call.faults_after ≡ call.faults → call.net_after ≡ call.net →
      Verdict Told call statuses.Usage usage_line
  -- reading stopped at a file that the words name
  ReadFailed : (asked : CommandWords) (file : FileOf) → WordsOf call.words ≡ Some asked →
      StopsAt Told call.content call.kept call.faults call.faults_after asked file → call.net_after ≡ call.net →
      Verdict Told call statuses.ReadFault (fault_line file)
  -- each was read or made, and they are judged
  IsJudged : (read : HasRead Told call.words call.content) (status : Status) (text : List ℕ) → call.faults_after ≡ call.faults →
      Judged read.asked read.held call.net call.net_after status text → Verdict Told call status text

-- ---- what the whole call comes to

-- What the whole call comes to: want of memory, and nothing was written; or the answer of a verdict.
pub data Came (Told TakenTold : Type 0) (call : Call) (taken taken' : List ℕ) (count count' : ℕ) : Status → Type 0 where
  NoMemory : taken' ≡ taken → count' ≡ count → Came Told TakenTold call taken taken' count count' statuses.NoMemory
  Answered : (status : Status) (text : List ℕ) (result : Status) → Verdict Told call status text →
      ComesOut TakenTold taken taken' count count' status text result → Came Told TakenTold call taken taken' count count' result
