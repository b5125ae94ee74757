use Rattle.std.proofs.Common.{◌≡◌, arith}
use Rattle.ec_meaning.specs.Sources.{source_of}
use Rattle.ec_native_run.proofs.Ending.{can_run, load_full, runs_to}
use Rattle.ec_native_run.proofs.Following.{first_follows}
use Rattle.ec_native_run.proofs.run.run.Goals as goal
use Rattle.ec_native_run.specs.Following.{IsReported}
use Rattle.ec_native_run.specs.Runs.{RunsTo}
use Rattle.ec_report.proofs.Lifting.{if_ok_one, if_ok_two}
use Rattle.ec_report.specs.Report.{load_report}
use Rattle.ec_report.specs.declared.answer.Answer.{Answer}
use Rattle.ec_report.specs.declared.end.ReportEnd.TheVariants.{IsFull}
use Rattle.ec_report.specs.declared.status.Status.TheVariants as statuses

pub load-requires : goal.load-requires
load-requires c =
    can_run c.in_ok-made.made.parts c.in_ok-made.made.images c.args.specs.now c.in_ok-made.ensures.runnable c.requires.nodes

pub run_loaded-requires : goal.run_loaded-requires
run_loaded-requires c =
    let p = c.in_ok-made.made.parts in
    let images = c.in_ok-made.made.images in
    let specs = c.args.specs.now in
    let can = can_run p images specs c.in_ok-made.ensures.runnable c.requires.nodes in
    let few = c.ranges.budget in
    record {
      loaded = first_follows p images specs c.args.schedule.now c.args.budget c.in-Ok.loaded c.requires.nodes can
          c.args.written.now c.in-Ok.ensures.loaded (omega arith);
    }

pub returns-in-Ok : goal.returns-in-Ok
returns-in-Ok c =
    let source = source_of c.args.program.now in
    let p = c.in_ok-made.made.parts in
    let images = c.in_ok-made.made.images in
    let specs = c.args.specs.now in
    let schedule = c.args.schedule.now in
    let budget = c.args.budget in
    let net = c.run_loaded.new.net in
    let can = can_run p images specs c.in_ok-made.ensures.runnable c.requires.nodes in
    if_ok_one (λ (a : Answer). IsReported source specs schedule budget c.in-Ok.loaded net a.status a.text.items)
    (λ (a : Answer). RunsTo source c.args.written.now specs schedule budget c.args.net.now net a.status a.text.items)
    c.run_loaded.result c.run_loaded.ensures
    (λ a r. runs_to source c.requires.accepted c.args.written.now p images specs schedule budget c.args.net.now c.in-Ok.loaded net a.status a.text.items
    c.in_ok-made.ensures.lowered can.loads c.in-Ok.ensures.loaded r)

pub returns-in-Err-Full : goal.returns-in-Err-Full
returns-in-Err-Full c =
    let source = source_of c.args.program.now in
    let p = c.in_ok-made.made.parts in
    let images = c.in_ok-made.made.images in
    let specs = c.args.specs.now in
    let schedule = c.args.schedule.now in
    let budget = c.args.budget in
    let net = c.args.net.now in
    let lack = c.in-Err-Full.lack in
    let lacks = rw c.in-Err-Full.field-0-is at c.in-Err-Full.ensures.full in
    let can = can_run p images specs c.in_ok-made.ensures.runnable c.requires.nodes in
    if_ok_two (λ (a : Answer). a.status ≡ statuses.Full)
    (λ (a : Answer). a.text.items ≡ load_report specs (IsFull lack.node lack.part lack.need lack.free))
    (λ (a : Answer). RunsTo source c.args.written.now specs schedule budget net net a.status a.text.items)
    c.answer_full.result c.answer_full.ensures.status c.answer_full.ensures.text
    (λ a status text. load_full source c.args.written.now p images specs schedule budget net lack a.status a.text.items c.in_ok-made.ensures.lowered
    can.loads lacks status text)
