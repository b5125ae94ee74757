-- The texts that a trial makes are judged.
use Rattle.std.proofs.Common.{ℕ, List, refl}
use Rattle.ec_tool.specs.declared.file.FileOf.{FileOf}
use Rattle.ec_inputs.specs.Words.{CommandWords}
use Rattle.ec_inputs.specs.Words.{CommandWords as command}
use Rattle.ec_report.proofs.Lifting.{implied}
use Rattle.ec_report.specs.declared.status.Status.{Status}
use Rattle.ec_tool.proofs.call.answer_trial.Goals as goal
use Rattle.ec_tool.specs.Asked.{AreMade}
use Rattle.ec_tool.specs.Reading.{held_in}
use Rattle.ec_tool.specs.Taking.{AsksFor}
use Rattle.ec_tool.specs.Verdict.{Judged}
use Rattle.ec_tool.specs.declared.take.Work.TheVariants.{Run}
use Rattle.ec_inputs.specs.Words.{default_budget}

pub returns : goal.returns
returns c =
    let number = c.args.number in
    let net = c.args.net.now in
    let net' = c.judge.new.net in
    let held = held_in c.in_ok-files.files in
    implied (λ (s : Status) (t : List ℕ). (any : CommandWords) → AsksFor Run default_budget any → Judged any held net net' s t)
    (λ (s : Status) (t : List ℕ). (h : FileOf → List ℕ) × AreMade (command.Trial number) h × Judged (command.Trial number) h net net' s t)
    c.judge.result c.judge.ensures
    (λ s t j. (held, c.in_ok-files.ensures, j (command.Trial number) refl))
