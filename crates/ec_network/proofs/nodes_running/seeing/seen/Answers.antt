-- The nodes of a system that stands in a world can be seen, and show this world.
use Rattle.ec_asking.proofs.Programs.{bare_shown, runs_program, runs_seen}
use Rattle.ec_network.proofs.nodes_running.seeing.seen.Goals as goal

pub of-requires : goal.of-requires
of-requires c =
    let goes = c.requires.1.1.works.goes in
    runs_seen c.requires.0 c.args.system.now c.requires.1.0 goes.runs
    (bare_shown c.args.system.now.cluster c.requires.1.0 goes.runs.mirrors.shows goes.idle.objects)

pub returns : goal.returns
returns c = λ d w s.
    c.of.ensures.sees w
    (runs_program d c.args.system.now w s.works.goes.runs
    (bare_shown c.args.system.now.cluster w s.works.goes.runs.mirrors.shows s.works.goes.idle.objects))
