-- What is said of files that were judged, by the status.
use Rattle.std.proofs.Common.{◌≡◌, ◌⊎◌, inl, inr, ℕ, List, Option, Some, None, Ok, Err, refl, sym, ap, subst, ◌∙◌}
use Rattle.ec_tool.specs.Asked.{name_in, file_name, file_limit, AreRead, AreMade, TakesToNodes, Checks}
use Rattle.ec_tool.specs.Promises.{IsRunStatus, EndsWith, IsNoSource, IsNoInput, CommandEnded, HasAccepted, IsRun, AreInputs, AreAccepted}
use Rattle.ec_tool.specs.Promises.IsRunStatus.{Finishes}
use Rattle.ec_tool.specs.Promises.BreaksRule.{ByNodes, BySchedule}
use Rattle.ec_tool.specs.Verdict.{Judged}
use Rattle.ec_tool.specs.Verdict.Judged.{SourceRefused, NodesRefused, ScheduleRefused, IsEnded, Accepts}
use Rattle.ec_tool.specs.declared.file.FileOf.{FileOf}
use Rattle.ec_tool.specs.declared.file.FileOf.TheVariants.{Source, Nodes, Schedule}
use Rattle.ec_tool.proofs.Statuses.{ends_with, end_status, full_is_run, IsByFiles, run_apart}
use Rattle.ec_tool.proofs.Statuses.IsByFiles.{RefusesSource, RefusesInput, Ended}
use Rattle.ec_inputs.specs.Nodes.{NodesOf}
use Rattle.ec_inputs.specs.Schedules.{EntriesOf}
use Rattle.ec_inputs.specs.Words.{CommandWords}
use Rattle.ec_inputs.specs.Words.{CommandWords as command}
use Rattle.ec_inputs.specs.declared.nodes.NodeRule.{NodeRule}
use Rattle.ec_inputs.specs.declared.schedule.ScheduleRule.{ScheduleRule}
use Rattle.ec_native_run.specs.Runs.{Net}
use Rattle.ec_outside.specs.Whole.{IsWhole}
use Rattle.ec_report.specs.declared.status.Status.{Status}
use Rattle.ec_report.specs.declared.status.Status.TheVariants as statuses
use Rattle.ec_tool.specs.Sources.{IsFaulty}
use Rattle.ec_tool.specs.declared.source.Refusal.{Refusal}
use Rattle.ec_tool.proofs.Sources.{not_faulty}

module _ (asked : CommandWords) (held : FileOf → List ℕ) (net net' : Net) where
  pub by_files : {s : Status} {t : List ℕ} → Judged asked held net net' s t → IsByFiles s
  by_files (SourceRefused refusal at r n) = RefusesSource
  by_files (NodesRefused rule takes m n) = RefusesInput
  by_files (ScheduleRefused specs rule line takes m k n) = RefusesInput
  by_files (IsEnded specs entries s t m k c) = Ended s (end_status asked s (ends_with asked (held Source) specs entries net net' s t c))
  by_files (Accepts h n) = Ended statuses.Finished Finishes

  pub source_refused : {s : Status} {t : List ℕ} → Judged asked held net net' s t → s ≡ statuses.SourceRefused →
      IsNoSource held t × (net' ≡ net)
  source_refused (SourceRefused refusal at r n) e = (record { refusal = refusal; at = at; refuses = r; text_is = refl }, n)
  source_refused (NodesRefused rule takes m n) e = cc
  source_refused (ScheduleRefused specs rule line takes m k n) e = cc
  source_refused (IsEnded specs entries s t m k c) e =
      absurd ((run_apart (end_status asked s (ends_with asked (held Source) specs entries net net' s t c))).not_source e)
  source_refused (Accepts h n) e = cc

  pub input_refused : {s : Status} {t : List ℕ} → Judged asked held net net' s t → s ≡ statuses.InputRefused →
      IsNoInput asked held t × (net' ≡ net)
  input_refused (SourceRefused refusal at r n) e = cc
  input_refused (NodesRefused rule takes m n) e = ((takes, ByNodes rule m), n)
  input_refused (ScheduleRefused specs rule line takes m k n) e = ((takes, BySchedule specs rule line m k), n)
  input_refused (IsEnded specs entries s t m k c) e =
      absurd ((run_apart (end_status asked s (ends_with asked (held Source) specs entries net net' s t c))).not_input e)
  input_refused (Accepts h n) e = cc

  -- a run, a plain meaning or a trial has ended so, or a check has accepted
  judged_ended : {s : Status} {t : List ℕ} → Judged asked held net net' s t → IsRunStatus s →
      CommandEnded asked held net net' s t ⊎ ((s ≡ statuses.Finished) × HasAccepted asked held net net' t)
  judged_ended (SourceRefused refusal at r n) e = elim e [ ]
  judged_ended (NodesRefused rule takes m n) e = elim e [ ]
  judged_ended (ScheduleRefused specs rule line takes m k n) e = elim e [ ]
  judged_ended (IsEnded specs entries s t m k c) e =
      inl (record { specs = specs; entries = entries; nodes_are = m; entries_are = k; comes_to = c })
  judged_ended (Accepts h n) e = inr (refl, (h, n, refl))

  either : (s : Status) (t : List ℕ) →
      CommandEnded asked held net net' s t ⊎ ((s ≡ statuses.Finished) × HasAccepted asked held net net' t) →
      CommandEnded asked held net net' s t ⊎ HasAccepted asked held net net' t
  either s t (inl h) = inl h
  either s t (inr h) = inr h.1

  pub has_finished : (s : Status) (t : List ℕ) → Judged asked held net net' s t → IsRunStatus s →
      CommandEnded asked held net net' s t ⊎ HasAccepted asked held net net' t
  has_finished s t j r = either s t (judged_ended j r)

  only_ended : (s : Status) (t : List ℕ) → (s ≡ statuses.Finished → ⊥) →
      CommandEnded asked held net net' s t ⊎ ((s ≡ statuses.Finished) × HasAccepted asked held net net' t) →
      CommandEnded asked held net net' s t
  only_ended s t n (inl h) = h
  only_ended s t n (inr h) = absurd (n h.0)

  pub has_ended : (s : Status) (t : List ℕ) → Judged asked held net net' s t → IsRunStatus s → (s ≡ statuses.Finished → ⊥) →
      CommandEnded asked held net net' s t
  has_ended s t j r n = only_ended s t n (judged_ended j r)

  pub full_run : (s : Status) (t : List ℕ) → CommandEnded asked held net net' s t → s ≡ statuses.Full → IsRun asked
  full_run s t h e = full_is_run asked (held Source) h.specs h.entries net net' s t h.comes_to e

-- ---- what is accepted

-- a file is read whole in one way
same_whole : (file : Option (List ℕ)) (limit : ℕ) (a b : List ℕ) → IsWhole file limit a → IsWhole file limit b → a ≡ b
same_whole (Some file) limit a b e f = e ∙ sym f
same_whole None limit a b e f = absurd e

-- the texts that the command judges are the same
abbrev pub SameTexts : CommandWords → (FileOf → List ℕ) → (FileOf → List ℕ) → Type 0
SameTexts (command.Run run) held other = (file : FileOf) → held file ≡ other file
SameTexts (command.Mean mean) held other = (file : FileOf) → held file ≡ other file
SameTexts (command.Check check) held other = held Source ≡ other Source
SameTexts (command.Trial number) held other = (file : FileOf) → held file ≡ other file

-- a file that the command names has one text
same_read : (content : List ℕ → Option (List ℕ)) (asked : CommandWords) (held other : FileOf → List ℕ) → AreRead content asked held →
    AreRead content asked other → (file : FileOf) (name : List ℕ) → file_name asked file ≡ Some name → held file ≡ other file
same_read content asked held other r q file name e =
    same_whole (content name) file_limit (held file) (other file) (r file name e) (q file name e)

pub same_texts : (content : List ℕ → Option (List ℕ)) (asked : CommandWords) (held other : FileOf → List ℕ) → AreRead content asked held →
    AreRead content asked other → AreMade asked held → AreMade asked other → SameTexts asked held other
same_texts content (command.Run run) held other r q m n =
    λ file. same_read content (command.Run run) held other r q file (name_in run file) refl
same_texts content (command.Mean mean) held other r q m n =
    λ file. same_read content (command.Mean mean) held other r q file (name_in mean file) refl
same_texts content (command.Check check) held other r q m n =
    same_read content (command.Check check) held other r q Source check.source refl
same_texts content (command.Trial number) held other r q m n = λ file. m file ∙ sym (n file)

-- among them the source
same_source : (asked : CommandWords) (held other : FileOf → List ℕ) → SameTexts asked held other → held Source ≡ other Source
same_source (command.Run run) held other same = same Source
same_source (command.Mean mean) held other same = same Source
same_source (command.Check check) held other same = same
same_source (command.Trial number) held other same = same Source

-- what is accepted isn't refused
pub no_refusal : (asked : CommandWords) (held : FileOf → List ℕ) (refusal : Refusal) (at : ℕ) → AreAccepted asked held →
    IsFaulty (held Source) refusal at → ⊥
no_refusal (command.Run run) held refusal at a r = not_faulty a.0 r
no_refusal (command.Mean mean) held refusal at a r = not_faulty a.0 r
no_refusal (command.Check check) held refusal at a r = not_faulty a r
no_refusal (command.Trial number) held refusal at a r = not_faulty a.0 r

no_rule : (nodes : List ℕ) (rule : NodeRule) (held : FileOf → List ℕ) → AreInputs held → nodes ≡ held Nodes → NodesOf nodes ≡ Err rule → ⊥
no_rule nodes rule held i e m = let y : Err rule ≡ Ok i.specs = sym m ∙ (ap NodesOf e ∙ i.nodes_are) in cc

no_line : (schedule : List ℕ) (rule : ScheduleRule) (line : Option ℕ) (held : FileOf → List ℕ) → AreInputs held → schedule ≡ held Schedule →
    EntriesOf schedule ≡ Err (rule, line) → ⊥
no_line schedule rule line held i e m = let y : Err (rule, line) ≡ Ok i.entries = sym m ∙ (ap EntriesOf e ∙ i.entries_are) in cc

-- where the same texts are accepted
module _ (held other : FileOf → List ℕ) (net net' : Net) where
  pub nodes_accepted : (asked : CommandWords) → SameTexts asked held other → AreAccepted asked other →
      (rule : NodeRule) → TakesToNodes asked (held Source) → NodesOf (held Nodes) ≡ Err rule → ⊥
  nodes_accepted (command.Run run) same a rule takes m = no_rule (held Nodes) rule other a.1 (same Nodes) m
  nodes_accepted (command.Mean mean) same a rule takes m = no_rule (held Nodes) rule other a.1 (same Nodes) m
  nodes_accepted (command.Check check) same a rule takes m = takes
  nodes_accepted (command.Trial number) same a rule takes m = no_rule (held Nodes) rule other a.1 (same Nodes) m

  pub schedule_accepted : (asked : CommandWords) → SameTexts asked held other → AreAccepted asked other →
      (rule : ScheduleRule) (line : Option ℕ) → TakesToNodes asked (held Source) → EntriesOf (held Schedule) ≡ Err (rule, line) → ⊥
  schedule_accepted (command.Run run) same a rule line takes m = no_line (held Schedule) rule line other a.1 (same Schedule) m
  schedule_accepted (command.Mean mean) same a rule line takes m = no_line (held Schedule) rule line other a.1 (same Schedule) m
  schedule_accepted (command.Check check) same a rule line takes m = takes
  schedule_accepted (command.Trial number) same a rule line takes m = no_line (held Schedule) rule line other a.1 (same Schedule) m

  checked_ends : (asked : CommandWords) (source : List ℕ) → Checks asked source → EndsWith asked statuses.Finished
  checked_ends (command.Run run) source h = absurd h
  checked_ends (command.Mean mean) source h = absurd h
  checked_ends (command.Check check) source h = refl
  checked_ends (command.Trial number) source h = absurd h

  accepted_ends : (asked : CommandWords) → SameTexts asked held other → AreAccepted asked other →
      {s : Status} {t : List ℕ} → Judged asked held net net' s t → EndsWith asked s
  accepted_ends asked same a (SourceRefused refusal at r n) =
      let e = same_source asked held other same in
      absurd (no_refusal asked other refusal at a (subst (λ (x : List ℕ). IsFaulty x refusal at) e r))
  accepted_ends asked same a (NodesRefused rule takes m n) = absurd (nodes_accepted asked same a rule takes m)
  accepted_ends asked same a (ScheduleRefused specs rule line takes m k n) = absurd (schedule_accepted asked same a rule line takes k)
  accepted_ends asked same a (IsEnded specs entries s t m k c) = ends_with asked (held Source) specs entries net net' s t c
  accepted_ends asked same a (Accepts h n) = checked_ends asked (held Source) h

  -- files that were read whole, or texts that were made, and are accepted lead to an end of the command
  pub ends_of : (content : List ℕ → Option (List ℕ)) (asked : CommandWords) → AreRead content asked held → AreMade asked held →
      AreRead content asked other → AreMade asked other → AreAccepted asked other →
      (s : Status) (t : List ℕ) → Judged asked held net net' s t → EndsWith asked s
  ends_of content asked r m q n a s t j = accepted_ends asked (same_texts content asked held other r q m n) a j
