use Rattle.std.proofs.Common.{refl, ℕ, List}
use Rattle.ec_tool.specs.Verdict.{Judged}
use Rattle.ec_tool.specs.Verdict.Judged.{SourceRefused, Accepts}
use Rattle.ec_inputs.specs.Words.{CheckWords}
use Rattle.ec_inputs.specs.Words.{CommandWords as command}
use Rattle.ec_native_run.specs.Runs.{Net}
use Rattle.ec_report.proofs.Lifting.{said}
use Rattle.ec_report.specs.declared.status.Status.{Status}
use Rattle.ec_report.specs.declared.status.Status.TheVariants as statuses
use Rattle.ec_tool.specs.Sources.{accepted_line, refused_line}
use Rattle.ec_tool.specs.Reading.{only}
use Rattle.ec_tool.proofs.judge.judge_source.Goals.{in-Ok, in-Err-Refused, in-Err-Memory}
use Rattle.ec_tool.proofs.judge.judge_source.Goals as goal

pub returns : goal.returns
returns c =
    let source = c.args.source.now in
    let P = λ (s : Status) (t : List ℕ). (check : CheckWords) (net : Net) → Judged (command.Check check) (only source) net net s t in
    elim c.match-check_source.branch [
      | in-Ok w ↦
          let found = w.in-Ok.field-0 in
          rw w.result-is
          (said P statuses.Finished accepted_line w.accepted.result w.accepted.ensures
          (λ check net. Accepts
          (record { tokens = found.tokens; program = found.checked.program; is_program = w.in-Ok.ensures.program }) refl))
      | in-Err-Refused w ↦
          let refused = w.in-Err-Refused.refused in
          rw w.result-is
          (said P statuses.SourceRefused (refused_line source refused.refusal refused.at) w.source_refused.result w.source_refused.ensures
          (λ check net. SourceRefused refused.refusal refused.at (rw w.in-Err-Refused.field-0-is at w.in-Err-Refused.ensures.refused) refl))
      | in-Err-Memory w ↦ rw w.result-is tt
    ]
