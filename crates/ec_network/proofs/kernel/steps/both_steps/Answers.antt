-- The second step finds what it asks for behind the first, and both make the world that the table of actions has.
use Rattle.std.proofs.Common.{subst, sym}
use Rattle.ec_cluster.proofs.Going.{same_moved}
use Rattle.ec_cluster.specs.Whereabouts.{MovedOnce, Traces}
use Rattle.ec_network.proofs.Both.{can_be_settled, can_do, has_acted, settles_in}
use Rattle.ec_network.proofs.Strings.{done_moves}
use Rattle.ec_network.proofs.kernel.steps.both_steps.Goals as goal
use Rattle.ec_cluster.specs.SystemSteps.{world_done}

pub does-requires : goal.does-requires
does-requires c =
    let d = c.requires.asks.0 in
    let w = c.requires.asks.1.0 in
    let a = c.requires.asks.1.1 in
    can_do d c.args.system.now w c.args.who c.args.doing a (c.requires.room d w a.below a.top a.goes.runs a.asks)

pub settle-requires : goal.settle-requires
settle-requires c =
    let d = c.requires.asks.0 in
    let w = c.requires.asks.1.0 in
    let a = c.requires.asks.1.1 in
    can_be_settled d c.args.system.now w c.args.who c.args.doing a (c.requires.room d w a.below a.top a.goes.runs a.asks)
    c.does.new.system c.in-Ok.outcome (c.in-Ok.ensures.does w a.goes.runs.mirrors) c.in-Ok.ensures.texts c.in-Ok.ensures.places

pub returns-in-Ok-settle-clause-acted : goal.returns-in-Ok-settle-clause-acted
returns-in-Ok-settle-clause-acted c = λ d w a.
    let room = c.requires.room d w a.below a.top a.goes.runs a.asks in
    let does = c.in-Ok.ensures.does w a.goes.runs.mirrors in
    has_acted d c.args.system.now w c.args.who c.args.doing a room c.does.new.system c.in-Ok.outcome does c.in-Ok.ensures.texts
    c.in-Ok.ensures.places c.settle.new.system
    (c.in-Ok-settle.ensures.settles d (world_done w c.args.who c.args.doing) a.below a.top
    (settles_in d c.args.system.now w c.args.who c.args.doing a room c.does.new.system c.in-Ok.outcome does c.in-Ok.ensures.texts
    c.in-Ok.ensures.places))
    c.in-Ok-settle.ensures.whereabouts

pub returns-in-Ok-settle-clause-moves : goal.returns-in-Ok-settle-clause-moves
returns-in-Ok-settle-clause-moves c =
    let old = c.args.system.now.cluster in
    let mid = c.does.new.system.cluster in
    subst (λ (d : Traces). MovedOnce old.whereabouts d) (sym c.in-Ok-settle.ensures.whereabouts)
    (same_moved old.whereabouts mid.whereabouts (done_moves old mid c.args.who.own c.args.doing c.in-Ok.ensures.places))
