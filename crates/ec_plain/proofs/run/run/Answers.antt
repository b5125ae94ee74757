use Rattle.std.proofs.Common.{◌≡◌, [], length}
use Rattle.ec_meaning.specs.ClassNames.{class_name}
use Rattle.ec_meaning.specs.Sources.{source_of}
use Rattle.ec_plain.specs.Plain.{IsPlainRun}
use Rattle.ec_plain.proofs.Driven.{driven_from, told}
use Rattle.ec_plain.proofs.run.run.Goals as goal
use Rattle.ec_report.proofs.Lifting.{if_ok_two}
use Rattle.ec_report.specs.Report.{report}
use Rattle.ec_report.specs.Status.{status_of}
use Rattle.ec_report.specs.declared.answer.Answer.{Answer}
use Rattle.ec_world.specs.Run.{statuses_of}

pub drive-requires : goal.drive-requires
drive-requires c = record {
  starts = driven_from c.in_ok-meaning.meaning c.args.schedule.now c.args.budget c.args.program (length c.args.specs.now)
      c.in_ok-meaning.ensures.program c.in_ok-meaning.ensures.world;
}

pub returns : goal.returns
returns c =
    let first = c.in_ok-meaning.meaning in
    let last = c.drive.new.state in
    let specs = c.args.specs.now in
    let end = c.in_ok-ended.ended.end in
    let done = c.in_ok-ended.ended.done in
    if_ok_two
    (λ (t : Answer). t.status ≡ status_of (statuses_of last.world) end)
    (λ (t : Answer). t.text.items ≡ report (class_name (source_of last.program)) last.world specs [] done end)
    (λ (t : Answer). IsPlainRun (source_of c.args.program) specs c.args.schedule.now c.args.budget t.status t.text.items)
    c.tell.result c.tell.ensures.status c.tell.ensures.text
    (λ t st tx. told first last c.args.schedule.now c.args.budget done end c.in_ok-ended.ensures
    c.args.program specs c.in_ok-meaning.ensures.program c.in_ok-meaning.ensures.world t.status t.text.items st tx)
