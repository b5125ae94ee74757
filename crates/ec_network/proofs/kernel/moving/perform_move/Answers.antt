-- The group that is asked for may go, and once it has gone, who asked goes on.
use Rattle.std.proofs.Common.{subst, sym}
use Rattle.ec_cluster.specs.Whereabouts.{MovedOnce, Traces}
use Rattle.ec_network.proofs.Asking.{may_gather}
use Rattle.ec_network.proofs.Finding.{move_finds_full}
use Rattle.ec_network.proofs.Gathered.{has_moved, move_can_settle, move_settles}
use Rattle.ec_network.proofs.KernelTold.{none_told, some_told}
use Rattle.ec_network.proofs.kernel.moving.perform_move.Goals as goal
use Rattle.ec_cluster.specs.SystemSteps.{world_done}
use Rattle.ec_world.specs.declared.doing.Doing.TheVariants.{Moves}

pub gather-requires-clause-may : goal.gather-requires-clause-may
gather-requires-clause-may c =
    let asks = c.requires.asks in
    record {
      declared = asks.0;
      world = asks.1.0;
      may = may_gather asks.0 c.args.system.now asks.1.0 c.args.numbers.now c.args.who c.args.members.now c.args.target c.args.fixes
          asks.1.1;
    }

pub settle-requires : goal.settle-requires
settle-requires c =
    let d = c.requires.asks.0 in
    let w = c.requires.asks.1.0 in
    let b = c.requires.asks.1.1 in
    move_can_settle d c.args.system.now w c.args.numbers.now c.args.who c.args.members.now c.args.target c.args.fixes b
    c.gather.new.system
    (none_told c.in-Ok-None.field-0 c.in-Ok-None.field-0-is c.in-Ok-None.ensures.done d w
    (may_gather d c.args.system.now w c.args.numbers.now c.args.who c.args.members.now c.args.target c.args.fixes b))

pub returns-in-Ok-clause-acted : goal.returns-in-Ok-clause-acted
returns-in-Ok-clause-acted c = λ d w b.
    let gathers = none_told c.in-Ok-None.field-0 c.in-Ok-None.field-0-is c.in-Ok-None.ensures.done d w
    (may_gather d c.args.system.now w c.args.numbers.now c.args.who c.args.members.now c.args.target c.args.fixes b) in
    has_moved d c.args.system.now w c.args.numbers.now c.args.who c.args.members.now c.args.target c.args.fixes b c.gather.new.system
    gathers c.settle.new.system
    (c.in-Ok.ensures.settles d (world_done w c.args.who (Moves c.args.members.now c.args.target c.args.fixes)) b.below b.top
    (move_settles d c.args.system.now w c.args.numbers.now c.args.who c.args.members.now c.args.target c.args.fixes b c.gather.new.system
    gathers))
    c.in-Ok.ensures.whereabouts

pub returns-in-Ok-clause-moves : goal.returns-in-Ok-clause-moves
returns-in-Ok-clause-moves c =
    subst (λ (d : Traces). MovedOnce c.args.system.now.cluster.whereabouts d) (sym c.in-Ok.ensures.whereabouts)
    c.in-Ok-None.ensures.moves

pub returns-in-Ok-Some-clause-refused : goal.returns-in-Ok-Some-clause-refused
returns-in-Ok-Some-clause-refused c = λ d w b.
    let full = some_told _ c.in-Ok-Some.field-0 c.in-Ok-Some.lack c.in-Ok-Some.field-0-is c.in-Ok-Some.ensures.full in
    record {
      same = full.0;
      finds = move_finds_full d c.args.system.now w c.args.numbers.now c.args.who c.args.members.now c.args.target c.args.fixes b
          c.in-Ok-Some.lack
          (full.1 d w (may_gather d c.args.system.now w c.args.numbers.now c.args.who c.args.members.now c.args.target c.args.fixes b));
    }
