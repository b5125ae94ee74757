-- A plain run that is driven: its start, its entries and its end.
use Rattle.std.proofs.Common.{◌≡◌, ℕ, ◌+◌, List, [], length, refl, sym, ap, subst, ◌∙◌}
use Rattle.ec_report.specs.Driver.{EndsAs, HasEnded}
use Rattle.ec_report.specs.Progress.{IsStep, Progress, advanced, at_start}
use Rattle.ec_report.specs.declared.step.Step.TheVariants.{Stops, Does}
use Rattle.ec_report.proofs.Coming.{comes_first, comes_next, run_ends}
use Rattle.ec_meaning.specs.Activations.{source_meaning}
use Rattle.ec_meaning.specs.ClassNames.{class_name}
use Rattle.ec_meaning.specs.Meaning.{source_silent, source_start}
use Rattle.ec_meaning.specs.Programs.{Source}
use Rattle.ec_meaning.specs.declared.activation.SourceActivation.{SourceActivation}
use Rattle.ec_meaning.specs.Sources.{source_of}
use Rattle.ec_meaning.specs.declared.meaning.Meaning.{Meaning}
use Rattle.ec_meaning.specs.declared.source.Program.{Program}
use Rattle.ec_plain.specs.Coming.{MeaningComes, NeverFull, SourceComes}
use Rattle.ec_plain.specs.Plain.{IsPlainRun}
use Rattle.ec_report.specs.Report.{report}
use Rattle.ec_report.specs.Status.{status_of}
use Rattle.ec_report.specs.declared.end.ReportEnd.{ReportEnd}
use Rattle.ec_report.specs.declared.end.ReportEnd.TheVariants.{Ends, IsFull}
use Rattle.ec_report.specs.declared.status.Status.{Status}
use Rattle.ec_world.specs.Run.{after_entry, statuses_of}
use Rattle.ec_world.specs.declared.node.NodeSpec.{NodeSpec}
use Rattle.ec_world.specs.declared.process.ProcStatus.{ProcStatus}
use Rattle.ec_world.specs.declared.run.Entry.{Entry}
use Rattle.ec_world.specs.declared.run.RunEnd.{RunEnd}
use Rattle.ec_world.specs.declared.run.RunEntry.{RunEntry}
use Rattle.ec_world.specs.declared.world.World.{World}

-- ---- one entry more

abbrev next_world : Source → World SourceActivation → RunEntry → World SourceActivation
next_world s v e = after_entry source_meaning (source_silent s) v e

pub driven_on : (start old new : Meaning) (schedule : List Entry) (budget : ℕ) (statuses : List ProcStatus) (progress : Progress)
    (e f : RunEntry) →
    e ≡ f → new.program ≡ old.program → new.world ≡ next_world (source_of old.program) old.world f →
    MeaningComes start schedule budget statuses progress old → IsStep statuses budget progress (Does e) →
    (after : List ProcStatus) × MeaningComes start schedule budget after (advanced progress e) new
driven_on start old new schedule budget statuses progress e f same kept is c next =
    let s = source_of start.program in
    let moved : new.world ≡ next_world s old.world e =
    is ∙ (ap (λ (p : Program). next_world (source_of p) old.world f) c.0 ∙ ap (λ (g : RunEntry). next_world s old.world g) (sym same)) in (
      statuses_of new.world,
      (
        kept ∙ c.0,
        comes_next source_meaning (source_silent s) (source_start s start.world.common.nodes) schedule budget statuses
            progress old.world c.1 e next new.world moved,
      ),
    )

-- ---- the start

pub driven_from : (start : Meaning) (schedule : List Entry) (budget : ℕ) (program : Program) (n : ℕ) → start.program ≡ program →
    start.world ≡ source_start (source_of program) n →
    (statuses : List ProcStatus) × MeaningComes start schedule budget statuses (at_start schedule) start
driven_from start schedule budget program n kept is =
    let s = source_of start.program in
    let nodes : start.world.common.nodes ≡ n = ap (λ (w : World SourceActivation). w.common.nodes) is in
    let first : start.world ≡ source_start s start.world.common.nodes =
    is ∙ (ap (λ (p : Program). source_start (source_of p) n) (sym kept) ∙ ap (λ (k : ℕ). source_start s k) (sym nodes)) in (
      statuses_of start.world,
      (refl, comes_first source_meaning (source_silent s) (source_start s start.world.common.nodes) schedule budget start.world first),
    )

-- ---- the end

-- what is told of a world at the end of a run
module _ (s : Source) (specs : List NodeSpec) (schedule : List Entry) (budget : ℕ) (statuses : List ProcStatus)
    (progress : Progress) (w : World SourceActivation) where
  pub told_of : SourceComes s (length specs) schedule budget statuses progress w → (how : RunEnd) →
      IsStep statuses budget progress (Stops how) →
      (status : Status) (text : List ℕ) → status ≡ status_of (statuses_of w) (Ends how) →
      text ≡ report (class_name s) w specs [] progress.done (Ends how) →
      IsPlainRun s specs schedule budget status text
  told_of c how step status text st tx = record {
    entries = progress.done;
    how = how;
    run = run_ends source_meaning (source_silent s) (source_start s (length specs)) schedule budget statuses progress w c how step;
    status_is = st ∙ ap (λ (v : World SourceActivation). status_of (statuses_of v) (Ends how)) c.world_is;
    text_is = tx ∙ ap (λ (v : World SourceActivation). report (class_name s) v specs [] progress.done (Ends how)) c.world_is;
  }

  -- of a plain run
  told_end : SourceComes s (length specs) schedule budget statuses progress w → (start : Meaning) (end : ReportEnd) →
      EndsAs MeaningComes NeverFull start schedule budget statuses progress end →
      (status : Status) (text : List ℕ) → status ≡ status_of (statuses_of w) end →
      text ≡ report (class_name s) w specs [] progress.done end →
      IsPlainRun s specs schedule budget status text
  told_end c start (Ends how) step status text st tx = told_of c how step status text st tx
  told_end c start (IsFull node part need free) h status text st tx = absurd h.1

module _ (start m : Meaning) (schedule : List Entry) (budget done : ℕ) (end : ReportEnd)
    (h : HasEnded MeaningComes NeverFull start schedule budget done end m) where
  -- a meaning that has come to the end of the run of a program on nodes
  pub told : (program : Program) (specs : List NodeSpec) → start.program ≡ program →
      start.world ≡ source_start (source_of program) (length specs) →
      (status : Status) (text : List ℕ) → status ≡ status_of (statuses_of m.world) end →
      text ≡ report (class_name (source_of m.program)) m.world specs [] done end →
      IsPlainRun (source_of program) specs schedule budget status text
  told program specs kept is status text st tx =
      let s = source_of program in
      let nodes : start.world.common.nodes ≡ length specs = ap (λ (w : World SourceActivation). w.common.nodes) is in
      let c = subst
      (λ (p : Program). SourceComes (source_of p) start.world.common.nodes schedule budget h.statuses h.progress m.world) kept
      h.stands.1 in
      let d = subst (λ (n : ℕ). SourceComes s n schedule budget h.statuses h.progress m.world) nodes c in
      let same : m.program ≡ program = h.stands.0 ∙ kept in
      let x : text ≡ report (class_name s) m.world specs [] h.progress.done end =
      tx ∙ (ap (λ (p : Program). report (class_name (source_of p)) m.world specs [] done end) same
      ∙ ap (λ (k : ℕ). report (class_name s) m.world specs [] k end) h.counted) in
      told_end s specs schedule budget h.statuses h.progress m.world d start end h.ends status text st x
