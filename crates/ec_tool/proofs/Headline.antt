-- What a run of an accepted source comes to, by the texts that it is accepted with: its end, and that just its report was written.
use Rattle.std.proofs.Common.{◌≡◌, ◌⊎◌, ◌∙◌, ℕ, inl, inr, List, ap, refl, subst, sym}
use Rattle.ec_tool.specs.Writing.{ComesOut}
use Rattle.ec_tool.specs.Writing.ComesOut.{Written, Broken}
use Rattle.ec_tool.specs.declared.file.FileOf.{FileOf}
use Rattle.ec_tool.specs.declared.file.FileOf.TheVariants.{Source, Nodes, Schedule}
use Rattle.ec_inputs.specs.Nodes.{NodesOf}
use Rattle.ec_inputs.specs.Schedules.{EntriesOf}
use Rattle.ec_inputs.specs.Words.{CommandWords}
use Rattle.ec_native_run.specs.Runs.{Net}
use Rattle.ec_report.specs.declared.status.Status.{Status}
use Rattle.ec_report.specs.declared.status.Status.TheVariants as statuses
use Rattle.ec_tool.specs.Sources.{IsFaulty}
use Rattle.ec_tool.proofs.Judging.{SameTexts, ends_of, no_refusal, nodes_accepted, same_texts, schedule_accepted}
use Rattle.ec_tool.proofs.Promised.{verdict_read}
use Rattle.ec_tool.specs.Asked.{Checks, ComesTo}
use Rattle.ec_tool.specs.Promises.{AreAccepted, EndsWith, CommandEnded, HasRun, IsAccepted, IsAcceptedCall, IsRun, IsRunStatus}
use Rattle.ec_tool.specs.Promises.IsRun.{OfFiles, OfTrial}
use Rattle.ec_tool.specs.Verdict.{Call, Came, Judged, Verdict}
use Rattle.ec_tool.specs.Verdict.Came.{NoMemory, Answered}
use Rattle.ec_tool.specs.Verdict.Judged.{Accepts, IsEnded, NodesRefused, ScheduleRefused, SourceRefused}

-- ---- the end

-- a run names each file, and a trial makes each text
all_same : (asked : CommandWords) → IsRun asked → (held other : FileOf → List ℕ) → SameTexts asked held other → (file : FileOf) →
    held file ≡ other file
all_same _ (OfFiles run) held other same file = same file
all_same _ (OfTrial number) held other same file = same file

is_end : (asked : CommandWords) → IsRun asked → (s : Status) → EndsWith asked s → IsRunStatus s
is_end _ (OfFiles run) s ends = ends
is_end _ (OfTrial number) s ends = ends

no_check : (asked : CommandWords) → IsRun asked → (source : List ℕ) → Checks asked source → ⊥
no_check _ (OfFiles run) source checks = checks
no_check _ (OfTrial number) source checks = checks

module _ (asked : CommandWords) (run : IsRun asked) (held other : FileOf → List ℕ) (net net' : Net) (same : SameTexts asked held other)
    (a : AreAccepted asked other) where
  -- what is accepted comes to its end
  has_run : {s : Status} {t : List ℕ} → Judged asked held net net' s t → CommandEnded asked other net net' s t
  has_run (SourceRefused refusal at r n) =
      let e = all_same asked run held other same Source in
      absurd (no_refusal asked other refusal at a (subst (λ (x : List ℕ). IsFaulty x refusal at) e r))
  has_run (NodesRefused rule takes m n) = absurd (nodes_accepted held other net net' asked same a rule takes m)
  has_run (ScheduleRefused specs rule line takes m k n) = absurd (schedule_accepted held other net net' asked same a rule line takes k)
  has_run (IsEnded specs entries s t m k c) = record {
    specs = specs;
    entries = entries;
    nodes_are = ap NodesOf (sym (all_same asked run held other same Nodes)) ∙ m;
    entries_are = ap EntriesOf (sym (all_same asked run held other same Schedule)) ∙ k;
    comes_to = subst (λ (x : List ℕ). ComesTo asked x specs entries net net' s t) (all_same asked run held other same Source) c;
  }
  has_run (Accepts h n) = absurd (no_check asked run (held Source) h)

-- ---- the call

module _ (Told TakenTold : Type 0) (call : Call) (taken taken' : List ℕ) (count count' : ℕ)
    (given : IsAcceptedCall Told TakenTold call.words call.content call.faults call.faults_after count count') where
  abbrev a : IsAccepted call.words call.content
  a = given.accepted

  abbrev Runs : Status → Type 0
  Runs = HasRun a.asked a.held call.net call.net_after taken taken'

  run_answered : {s r : Status} {t : List ℕ} → Verdict Told call s t → ComesOut TakenTold taken taken' count count' s t r → Runs r
  run_answered {t = t} v (Written w k) =
      let read = verdict_read Told call v given.shelf_tells a given.no_read_fault in
      let same = same_texts call.content a.asked read.held a.held read.are_read a.are_read read.are_made a.are_made in
      record {
        text = t;
        is_end = is_end a.asked given.is_run _
            (ends_of read.held a.held call.net call.net_after call.content a.asked read.are_read read.are_made a.are_read a.are_made
            a.are_accepted _ t read.judged);
        ended = has_run a.asked given.is_run read.held a.held call.net call.net_after same a.are_accepted read.judged;
        written = w given.sink_tells;
      }
  run_answered v (Broken w h) = absurd (given.no_write_fault h)

  pub headline : {r : Status} → Came Told TakenTold call taken taken' count count' r → Runs r ⊎ (r ≡ statuses.NoMemory)
  headline (NoMemory m k) = inr refl
  headline (Answered st tx r v x) = inl (run_answered v x)
