use Rattle.std.proofs.Common.{refl, ℕ, List}
use Rattle.ec_tool.specs.Lines.{fault_line}
use Rattle.ec_tool.specs.Verdict.{Judged, Verdict}
use Rattle.ec_tool.specs.Verdict.Verdict.{ReadFailed, IsJudged}
use Rattle.ec_tool.specs.declared.file.FileOf.TheVariants.{Source}
use Rattle.ec_inputs.specs.Words.{CheckWords, check_in}
use Rattle.ec_inputs.specs.Words.{CommandWords as command}
use Rattle.ec_native_run.specs.Runs.{Net}
use Rattle.ec_report.proofs.Lifting.{said, implied}
use Rattle.ec_report.specs.declared.status.Status.{Status}
use Rattle.ec_report.specs.declared.status.Status.TheVariants as statuses
use Rattle.ec_tool.specs.Reading.{WhereAsked, only}
use Rattle.ec_tool.proofs.Verdicts.{source_read}
use Rattle.ec_tool.proofs.call.answer_check.Goals as goal

pub returns-in-Ok : goal.returns-in-Ok
returns-in-Ok g c =
    let check = check_in c.args.check in
    let asked = command.Check check in
    let content = g.F.Shelf.content c.args.shelf.now in
    let kept = g.F.Shelf.kept c.args.shelf.now in
    let faults = g.F.Shelf.faults c.args.shelf.now in
    let faults' = g.F.Shelf.faults c.read_file.new.shelf in
    let source = c.in-Ok.source.items in
    implied (λ (s : Status) (t : List ℕ). (any : CheckWords) (net : Net) → Judged (command.Check any) (only source) net net s t)
    (λ (s : Status) (t : List ℕ). (net : Net) →
    WhereAsked asked
    (λ ws. Verdict (g.F.Shelf.tells c.args.shelf.now)
    (record {
      words = ws;
      content = content;
      kept = kept;
      faults = faults;
      faults_after = faults';
      net =
          net;
      net_after = net;
    }) s t))
    c.judge_source.result (rw c.deref.ensures.value at c.judge_source.ensures)
    (λ s t j net ws w. IsJudged
    (record {
      asked = asked;
      held = only source;
      words_are = w;
      are_read =
          λ told. source_read content check source (c.in-Ok.ensures.read told);
      are_made = tt;
    }) s t c.in-Ok.ensures.ok (j check net))

pub returns-in-Err-Failed : goal.returns-in-Err-Failed
returns-in-Err-Failed g c =
    let check = check_in c.args.check in
    let asked = command.Check check in
    let content = g.F.Shelf.content c.args.shelf.now in
    let kept = g.F.Shelf.kept c.args.shelf.now in
    let faults = g.F.Shelf.faults c.args.shelf.now in
    let faults' = g.F.Shelf.faults c.read_file.new.shelf in
    let failed = rw c.in-Err-Failed.field-0-is at c.in-Err-Failed.ensures.failed in
    said (λ (s : Status) (t : List ℕ). (net : Net) →
    WhereAsked asked
    (λ ws. Verdict (g.F.Shelf.tells c.args.shelf.now)
    (record {
      words = ws;
      content = content;
      kept = kept;
      faults = faults;
      faults_after = faults';
      net =
          net;
      net_after = net;
    }) s t))
    statuses.ReadFault (fault_line Source)
    c.read_fault.result (rw failed.0 at c.read_fault.ensures)
    (λ net ws w. ReadFailed asked Source w
    (record { name = check.source; name_is = refl; risen = failed.1; others_stay = c.read_file.ensures.others; earlier = λ told. tt }) refl)
