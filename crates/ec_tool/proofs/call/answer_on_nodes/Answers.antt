use Rattle.std.proofs.Common.{refl, ℕ, List}
use Rattle.ec_tool.specs.Lines.{fault_line}
use Rattle.ec_tool.specs.Verdict.{Judged, Verdict}
use Rattle.ec_tool.specs.Verdict.Verdict.{ReadFailed, IsJudged}
use Rattle.ec_inputs.specs.Words.{CommandWords, run_in}
use Rattle.ec_report.proofs.Lifting.{said, implied}
use Rattle.ec_report.specs.declared.status.Status.{Status}
use Rattle.ec_report.specs.declared.status.Status.TheVariants as statuses
use Rattle.ec_tool.specs.Reading.{WhereAsked, held_in}
use Rattle.ec_tool.specs.Taking.{AsksFor, asked_of}
use Rattle.ec_tool.proofs.Taking.{asks_for}
use Rattle.ec_tool.proofs.Verdicts.{all_read, none_made, stops}
use Rattle.ec_tool.proofs.call.answer_on_nodes.Goals as goal

pub returns-in-Ok : goal.returns-in-Ok
returns-in-Ok g c =
    let words = run_in c.args.run in
    let asked = asked_of c.args.work words in
    let content = g.F.Shelf.content c.args.shelf.now in
    let kept = g.F.Shelf.kept c.args.shelf.now in
    let faults = g.F.Shelf.faults c.args.shelf.now in
    let faults' = g.F.Shelf.faults c.read_files.new.shelf in
    let net = c.args.net.now in
    let net' = c.judge.new.net in
    let held = held_in c.in-Ok.files in
    implied (λ (s : Status) (t : List ℕ). (any : CommandWords) → AsksFor c.args.work words.budget any → Judged any held net net' s t)
    (λ (s : Status) (t : List ℕ). WhereAsked asked
    (λ ws. Verdict (g.F.Shelf.tells c.args.shelf.now)
    (record {
      words = ws;
      content = content;
      kept = kept;
      faults = faults;
      faults_after = faults';
      net = net;
      net_after =
          net';
    }) s t))
    c.judge.result c.judge.ensures
    (λ s t j ws w. IsJudged
    (record {
      asked = asked;
      held = held;
      words_are = w;
      are_read =
          λ told. all_read content c.args.work words held (c.in-Ok.ensures.read told);
      are_made = none_made c.args.work words held;
    }) s t c.in-Ok.ensures.ok (j asked (asks_for c.args.work words)))

pub returns-in-Err-Failed : goal.returns-in-Err-Failed
returns-in-Err-Failed g c =
    let words = run_in c.args.run in
    let asked = asked_of c.args.work words in
    let content = g.F.Shelf.content c.args.shelf.now in
    let kept = g.F.Shelf.kept c.args.shelf.now in
    let faults = g.F.Shelf.faults c.args.shelf.now in
    let faults' = g.F.Shelf.faults c.read_files.new.shelf in
    let net = c.args.net.now in
    let file = c.in-Err-Failed.file in
    said (λ (s : Status) (t : List ℕ). WhereAsked asked
    (λ ws. Verdict (g.F.Shelf.tells c.args.shelf.now)
    (record {
      words = ws;
      content = content;
      kept = kept;
      faults = faults;
      faults_after = faults';
      net = net;
      net_after =
          net;
    }) s t))
    statuses.ReadFault (fault_line file)
    c.read_fault.result (rw c.in-Err-Failed.file-is at c.read_fault.ensures)
    (λ ws w. ReadFailed asked file w (stops c.args.work words file
    (rw c.in-Err-Failed.field-0-is at c.in-Err-Failed.ensures.failed) (rw c.in-Err-Failed.field-0-is at c.in-Err-Failed.ensures.others)
    (λ told. rw c.in-Err-Failed.field-0-is at (c.in-Err-Failed.ensures.earlier told))) refl)
