use Rattle.std.proofs.Common.{ℕ, Bor, List, map, Some, refl, ap, ◌∙◌}
use Rattle.ec_tool.specs.Lines.{usage_line}
use Rattle.ec_tool.specs.declared.file.FileOf.{FileOf}
use Rattle.ec_tool.specs.Asked.{AreMade}
use Rattle.ec_tool.specs.Verdict.{Judged, Verdict}
use Rattle.ec_tool.specs.Verdict.Verdict.{NoCommand, IsJudged}
use Rattle.ec_inputs.specs.declared.words.Command.TheVariants as given
use Rattle.ec_inputs.specs.Words.{run_in, check_in}
use Rattle.ec_inputs.specs.Words.{CommandWords as command}
use Rattle.ec_native_run.specs.Runs.{Net}
use Rattle.ec_report.proofs.Lifting.{said, implied}
use Rattle.ec_report.specs.declared.status.Status.{Status}
use Rattle.ec_report.specs.declared.status.Status.TheVariants as statuses
use Rattle.ec_tool.specs.Reading.{WhereAsked}
use Rattle.ec_tool.proofs.Verdicts.{words_of_some, words_of_none, none_read}
use Rattle.ec_tool.proofs.call.answer.Goals as goal

pub returns-in-None-clause-verdict : goal.returns-in-None-clause-verdict
returns-in-None-clause-verdict g c =
    let words = map (λ (word : Bor (List ℕ)). word.now) c.args.words.now in
    let none = words_of_none words c.in_ok-run.field-0 c.in_ok-run.ensures.words c.in-None.is in
    let content = g.F.Shelf.content c.args.shelf.now in
    let kept = g.F.Shelf.kept c.args.shelf.now in
    let faults = g.F.Shelf.faults c.args.shelf.now in
    let net = c.args.net.now in
    said (λ (s : Status) (t : List ℕ). Verdict (g.F.Shelf.tells c.args.shelf.now)
    (record { words = words; content = content; kept = kept; faults = faults; faults_after = faults; net = net; net_after = net }) s t)
    statuses.Usage usage_line c.usage.result c.usage.ensures (NoCommand none refl refl)

pub returns-in-Some-Run-clause-verdict : goal.returns-in-Some-Run-clause-verdict
returns-in-Some-Run-clause-verdict g c =
    let words = map (λ (word : Bor (List ℕ)). word.now) c.args.words.now in
    let run = c.in-Some-Run.run' in
    let w = words_of_some words c.in_ok-run.field-0 c.in_ok-run.ensures.words (given.Run run)
    (c.in-Some-Run.is ∙ ap Some c.in-Some-Run.field-0-is) in
    let told = g.F.Shelf.tells c.args.shelf.now in
    let content = g.F.Shelf.content c.args.shelf.now in
    let kept = g.F.Shelf.kept c.args.shelf.now in
    let faults = g.F.Shelf.faults c.args.shelf.now in
    let faults' = g.F.Shelf.faults c.answer_on_nodes.new.shelf in
    let net = c.args.net.now in
    let net' = c.answer_on_nodes.new.net in
    implied (λ (s : Status) (t : List ℕ). WhereAsked (command.Run (run_in run))
    (λ asking. Verdict told
    (record {
      words = asking;
      content = content;
      kept = kept;
      faults = faults;
      faults_after = faults';
      net =
          net;
      net_after = net';
    }) s t))
    (λ (s : Status) (t : List ℕ). Verdict told
    (record {
      words = words;
      content = content;
      kept = kept;
      faults = faults;
      faults_after = faults';
      net = net;
      net_after =
          net';
    }) s t)
    c.answer_on_nodes.result c.answer_on_nodes.ensures
    (λ s t h. h words w)

pub returns-in-Some-Check-clause-verdict : goal.returns-in-Some-Check-clause-verdict
returns-in-Some-Check-clause-verdict g c =
    let words = map (λ (word : Bor (List ℕ)). word.now) c.args.words.now in
    let check = c.in-Some-Check.check in
    let w = words_of_some words c.in_ok-run.field-0 c.in_ok-run.ensures.words (given.Check check)
    (c.in-Some-Check.is ∙ ap Some c.in-Some-Check.field-0-is) in
    let told = g.F.Shelf.tells c.args.shelf.now in
    let content = g.F.Shelf.content c.args.shelf.now in
    let kept = g.F.Shelf.kept c.args.shelf.now in
    let faults = g.F.Shelf.faults c.args.shelf.now in
    let faults' = g.F.Shelf.faults c.answer_check.new.shelf in
    let net = c.args.net.now in
    implied (λ (s : Status) (t : List ℕ). (old : Net) →
    WhereAsked (command.Check (check_in check))
    (λ asking. Verdict told
    (record {
      words = asking;
      content = content;
      kept = kept;
      faults = faults;
      faults_after = faults';
      net =
          old;
      net_after = old;
    }) s t))
    (λ (s : Status) (t : List ℕ). Verdict told
    (record { words = words; content = content; kept = kept; faults = faults; faults_after = faults'; net = net; net_after = net }) s t)
    c.answer_check.result c.answer_check.ensures
    (λ s t h. h net words w)

pub returns-in-Some-Mean-clause-verdict : goal.returns-in-Some-Mean-clause-verdict
returns-in-Some-Mean-clause-verdict g c =
    let words = map (λ (word : Bor (List ℕ)). word.now) c.args.words.now in
    let mean = c.in-Some-Mean.mean in
    let w = words_of_some words c.in_ok-run.field-0 c.in_ok-run.ensures.words (given.Mean mean)
    (c.in-Some-Mean.is ∙ ap Some c.in-Some-Mean.field-0-is) in
    let told = g.F.Shelf.tells c.args.shelf.now in
    let content = g.F.Shelf.content c.args.shelf.now in
    let kept = g.F.Shelf.kept c.args.shelf.now in
    let faults = g.F.Shelf.faults c.args.shelf.now in
    let faults' = g.F.Shelf.faults c.answer_on_nodes-in-Some-Mean.new.shelf in
    let net = c.args.net.now in
    let net' = c.answer_on_nodes-in-Some-Mean.new.net in
    implied (λ (s : Status) (t : List ℕ). WhereAsked (command.Mean (run_in mean))
    (λ asking. Verdict told
    (record {
      words = asking;
      content = content;
      kept = kept;
      faults = faults;
      faults_after = faults';
      net =
          net;
      net_after = net';
    }) s t))
    (λ (s : Status) (t : List ℕ). Verdict told
    (record {
      words = words;
      content = content;
      kept = kept;
      faults = faults;
      faults_after = faults';
      net = net;
      net_after =
          net';
    }) s t)
    c.answer_on_nodes-in-Some-Mean.result c.answer_on_nodes-in-Some-Mean.ensures
    (λ s t h. h words w)

pub returns-in-Some-Trial-clause-verdict : goal.returns-in-Some-Trial-clause-verdict
returns-in-Some-Trial-clause-verdict g c =
    let words = map (λ (word : Bor (List ℕ)). word.now) c.args.words.now in
    let number = c.in-Some-Trial.number in
    let w = words_of_some words c.in_ok-run.field-0 c.in_ok-run.ensures.words (given.Trial number)
    (c.in-Some-Trial.is ∙ ap Some c.in-Some-Trial.field-0-is) in
    let told = g.F.Shelf.tells c.args.shelf.now in
    let content = g.F.Shelf.content c.args.shelf.now in
    let kept = g.F.Shelf.kept c.args.shelf.now in
    let faults = g.F.Shelf.faults c.args.shelf.now in
    let net = c.args.net.now in
    let net' = c.answer_trial.new.net in
    implied (λ (s : Status) (t : List ℕ). (held : FileOf → List ℕ) × AreMade (command.Trial number) held ×
    Judged (command.Trial number) held net net' s t)
    (λ (s : Status) (t : List ℕ). Verdict told
    (record { words = words; content = content; kept = kept; faults = faults; faults_after = faults; net = net; net_after = net' }) s t)
    c.answer_trial.result c.answer_trial.ensures
    (λ s t h. IsJudged
    (record {
      asked = command.Trial number;
      held = h.0;
      words_are = w;
      are_read = λ told. none_read content number h.0;
      are_made = h.1;
    }) s t refl h.2)
