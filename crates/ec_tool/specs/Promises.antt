-- What the call promises of each status with which it ends: its cause, and what is written.
use Rattle.std.specs.Prelude.{◌≡◌, ◌++◌, ℕ, List, Option, Some, Ok, Err}
use Rattle.ec_tool.specs.Asked.{file_name, AreRead, AreMade, StopsAt, TakesToNodes, Checks, ComesTo}
use Rattle.ec_tool.specs.Lines.{fault_line}
use Rattle.ec_tool.specs.declared.file.FileOf.{FileOf}
use Rattle.ec_tool.specs.declared.file.FileOf.TheVariants.{Source, Nodes, Schedule}
use Rattle.ec_inputs.specs.Nodes.{NodesOf}
use Rattle.ec_inputs.specs.Schedules.{EntriesOf}
use Rattle.ec_inputs.specs.Words.{RunWords, CommandWords, WordsOf}
use Rattle.ec_inputs.specs.Words.{CommandWords as command}
use Rattle.ec_inputs.specs.declared.nodes.NodeRule.{NodeRule}
use Rattle.ec_inputs.specs.declared.schedule.ScheduleRule.{ScheduleRule}
use Rattle.ec_native_run.specs.Runs.{Net}
use Rattle.ec_outside.specs.Fault.{HasRisen}
use Rattle.ec_report.specs.declared.status.Status.{Status}
use Rattle.ec_report.specs.declared.status.Status.TheVariants as statuses
use Rattle.ec_tool.specs.Refusals.{nodes_line, schedule_line}
use Rattle.ec_tool.specs.Sources.{IsChecked, IsFaulty, accepted_line, refused_line}
use Rattle.ec_tool.specs.declared.source.Refusal.{Refusal}
use Rattle.ec_world.specs.declared.node.NodeSpec.{NodeSpec}
use Rattle.ec_world.specs.declared.run.Entry.{Entry}

-- ---- the statuses with which a command ends

-- the end of a run, by itself or as a node is full
pub data IsRunStatus : Status → Type 0 where
  Finishes : IsRunStatus statuses.Finished
  Fails : IsRunStatus statuses.SomeFailed
  Spends : IsRunStatus statuses.Spent
  Fills : IsRunStatus statuses.Full
  Sticks : IsRunStatus statuses.Stuck

-- the end of a plain meaning; no node is full there
pub data IsPlainStatus : Status → Type 0 where
  Finishes : IsPlainStatus statuses.Finished
  Fails : IsPlainStatus statuses.SomeFailed
  Spends : IsPlainStatus statuses.Spent
  Sticks : IsPlainStatus statuses.Stuck

-- a command that is accepted ends so
abbrev pub EndsWith : CommandWords → Status → Type 0
EndsWith (command.Run run) status = IsRunStatus status
EndsWith (command.Mean mean) status = IsPlainStatus status
EndsWith (command.Check check) status = status ≡ statuses.Finished
EndsWith (command.Trial number) status = IsRunStatus status

-- ---- causes, with the text that tells them

-- the words name a file at which reading stopped, and the text is that file's line
pub record HasReadFault (Told : Type 0) (words : List (List ℕ)) (content : List ℕ → Option (List ℕ)) (kept : List (List ℕ))
    (faults faults' : List ℕ → ℕ) (text : List ℕ) : Type 0 where
  pub asked : CommandWords
  pub file : FileOf
  pub words_are : WordsOf words ≡ Some asked
  pub stops : StopsAt Told content kept faults faults' asked file
  pub text_is : text ≡ fault_line file

-- the source is refused
pub record IsNoSource (held : FileOf → List ℕ) (text : List ℕ) : Type 0 where
  pub refusal : Refusal
  pub at : ℕ
  pub refuses : IsFaulty (held Source) refusal at
  pub text_is : text ≡ refused_line (held Source) refusal at

-- the node file breaks a rule, or the nodes are there and the schedule breaks one
pub data BreaksRule (nodes schedule : List ℕ) : List ℕ → Type 0 where
  ByNodes : (rule : NodeRule) → NodesOf nodes ≡ Err rule → BreaksRule nodes schedule (nodes_line rule)
  BySchedule : (specs : List NodeSpec) (rule : ScheduleRule) (line : Option ℕ) → NodesOf nodes ≡ Ok specs →
      EntriesOf schedule ≡ Err (rule, line) →
      BreaksRule nodes schedule (schedule_line rule line)

-- the source is taken to nodes, but the node file or the schedule breaks a rule
abbrev pub IsNoInput : CommandWords → (FileOf → List ℕ) → List ℕ → Type 0
IsNoInput asked held text = TakesToNodes asked (held Source) × BreaksRule (held Nodes) (held Schedule) text

-- a run, a plain meaning or a trial has come to its end
pub record CommandEnded (asked : CommandWords) (held : FileOf → List ℕ) (net net' : Net) (status : Status) (text : List ℕ) : Type 0 where
  pub specs : List NodeSpec
  pub entries : List Entry
  pub nodes_are : NodesOf (held Nodes) ≡ Ok specs
  pub entries_are : EntriesOf (held Schedule) ≡ Ok entries
  pub comes_to : ComesTo asked (held Source) specs entries net net' status text

-- the command is a run, of files or of a trial
pub data IsRun : CommandWords → Type 0 where
  OfFiles : (run : RunWords) → IsRun (command.Run run)
  OfTrial : (number : ℕ) → IsRun (command.Trial number)

-- a check has accepted its source, and left the network as it was
abbrev pub HasAccepted : CommandWords → (FileOf → List ℕ) → Net → Net → List ℕ → Type 0
HasAccepted asked held net net' text = Checks asked (held Source) × (net' ≡ net) × (text ≡ accepted_line)

-- ---- commands that are accepted

-- the node file gives nodes, and the schedule entries
pub record AreInputs (held : FileOf → List ℕ) : Type 0 where
  pub specs : List NodeSpec
  pub entries : List Entry
  pub nodes_are : NodesOf (held Nodes) ≡ Ok specs
  pub entries_are : EntriesOf (held Schedule) ≡ Ok entries

-- The command accepts what its files hold, or the texts that it makes: the source is a program's, as a check asks, and but for a check
-- there are nodes and entries.
abbrev pub AreAccepted : CommandWords → (FileOf → List ℕ) → Type 0
AreAccepted (command.Run run) held = IsChecked (held Source) × AreInputs held
AreAccepted (command.Mean mean) held = IsChecked (held Source) × AreInputs held
AreAccepted (command.Check check) held = IsChecked (held Source)
AreAccepted (command.Trial number) held = IsChecked (held Source) × AreInputs held

-- the words ask for a command that accepts what its files hold, or the texts that it makes
pub record IsAccepted (words : List (List ℕ)) (content : List ℕ → Option (List ℕ)) : Type 0 where
  pub asked : CommandWords
  pub held : FileOf → List ℕ
  pub words_are : WordsOf words ≡ Some asked
  pub are_read : AreRead content asked held
  pub are_made : AreMade asked held
  pub are_accepted : AreAccepted asked held

-- no count of a file that the command names has risen
abbrev pub NoneRisen : CommandWords → (List ℕ → ℕ) → (List ℕ → ℕ) → Type 0
NoneRisen asked faults faults' = (file : FileOf) (name : List ℕ) → file_name asked file ≡ Some name →
    ¬ HasRisen (faults name) (faults' name)

-- ---- the headline

-- A call of which the headline speaks: the shelf and the sink tell what they hold, the words ask for a run that is accepted, and no count
-- of a fault rises, neither of a file that the command names nor of the sink.
pub record IsAcceptedCall (Told TakenTold : Type 0) (words : List (List ℕ)) (content : List ℕ → Option (List ℕ))
    (faults faults' : List ℕ → ℕ) (count count' : ℕ) : Type 0 where
  pub shelf_tells : Told
  pub sink_tells : TakenTold
  pub accepted : IsAccepted words content
  pub is_run : IsRun accepted.asked
  pub no_read_fault : NoneRisen accepted.asked faults faults'
  pub no_write_fault : ¬ HasRisen count count'

-- A run has come to its end, by itself, or as the budget is spent or a node is full: its status is that of the end, and just the report of
-- the run of the source's meaning on these nodes along these entries was written, while the nodes' own machine code has led along them.
pub record HasRun (asked : CommandWords) (held : FileOf → List ℕ) (net net' : Net) (taken taken' : List ℕ) (status : Status) : Type 0 where
  pub text : List ℕ
  pub is_end : IsRunStatus status
  pub ended : CommandEnded asked held net net' status text
  pub written : taken' ≡ taken ++ text
