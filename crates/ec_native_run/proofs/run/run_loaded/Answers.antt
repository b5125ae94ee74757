use Rattle.std.proofs.Common.{◌≡◌, ◌∙◌, arith}
use Rattle.ec_meaning.specs.Sources.{source_of}
use Rattle.ec_native_run.proofs.run.run_loaded.Goals as goal
use Rattle.ec_native_run.specs.Following.{ForNodes, IsReported}
use Rattle.ec_native_run.specs.Runs.{run_report}
use Rattle.ec_network.proofs.Networks.{is_running}
use Rattle.ec_network.specs.Nets.{counts_of}
use Rattle.ec_network.specs.Networks.{ForStanding}
use Rattle.ec_report.proofs.Lifting.{if_ok_two}
use Rattle.ec_report.specs.Status.{status_of}
use Rattle.ec_report.specs.declared.answer.Answer.{Answer}
use Rattle.ec_world.specs.Run.{statuses_of}

pub answer_end-requires-clause-whole : goal.answer_end-requires-clause-whole
answer_end-requires-clause-whole c = is_running c.drive.new.state c.in_ok-ended.ensures.stands.now c.in_ok-ended.ensures.stands.is

pub answer_end-requires-clause-few : goal.answer_end-requires-clause-few
answer_end-requires-clause-few c = omega (arith, c.in_ok-ended.ensures.stands.come.nodes.few)

pub returns : goal.returns
returns c =
    let e = c.in_ok-ended.ensures in
    let f = e.stands in
    let source = source_of c.args.program.now in
    let specs = c.args.specs.now in
    let net = c.drive.new.state in
    let done = c.in_ok-ended.ended.done in
    let end = c.in_ok-ended.ended.end in
    let shows = f.come.shows in
    if_ok_two (λ (a : Answer). ForStanding net (λ d s w. a.status ≡ status_of (statuses_of w) end))
    (λ (a : Answer). ForNodes net specs (λ w. a.text.items ≡ run_report source w specs (counts_of net) done end))
    (λ (a : Answer). IsReported source specs c.args.schedule.now c.args.budget c.args.net.now net a.status a.text.items)
    c.answer_end.result c.answer_end.ensures.status c.answer_end.ensures.text
    (λ a status text.
    record {
      done = done;
      how = end;
      ended = e;
      status_is = status f.come.declared f.now f.world f.is f.come.stands;
      text_is = text f.come.declared f.now f.world f.is f.come.stands (shows.mirrors.nodes ∙ shows.sizes.nodes);
    })
