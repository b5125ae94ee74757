-- What is seen of the nodes is what the world has; a group that has gone is where the move has it.
use Rattle.std.proofs.Common.{◌≡◌, ◌+◌, ℕ, List, Some, None, suc, sym, ◌∙◌, subst, arith}
use Rattle.ec_cluster.proofs.Going.{none_moved}
use Rattle.ec_gathering.specs.Gathers.{Gathers, LacksFor, MayGather}
use Rattle.ec_network.specs.Acts.{FoundFull}
use Rattle.ec_network.proofs.Moved.{found_full, has_moved, may, members_are, not_moved}
use Rattle.ec_network.proofs.NodesRunningTold.{from_none, from_some}
use Rattle.ec_network.proofs.nodes_running.moving.shift.Goals as goal
use Rattle.ec_cluster.specs.Decoded.{seen_common}
use Rattle.ec_cluster.specs.declared.system.System.{System}
use Rattle.ec_world.specs.Moves.{OperatorMove}

pub returns-in-Ok-None-clause-moved : goal.returns-in-Ok-None-clause-moved
returns-in-Ok-None-clause-moved c = λ d w s.
    not_moved d c.args.system.now w c.args.o c.args.k s
    (members_are (seen_common c.seen.result) w c.args.o c.args.k None (sym c.in-Ok-None.field-0-is ∙ c.in-Ok-None.ensures.members)
    (c.seen.ensures d w s))

pub returns-in-Ok-None-clause-moves : goal.returns-in-Ok-None-clause-moves
returns-in-Ok-None-clause-moves c = none_moved c.args.system.now.cluster.whereabouts

pub gather-requires-clause-may : goal.gather-requires-clause-may
gather-requires-clause-may c =
    let d = c.requires.stands.0 in
    let w = c.requires.stands.1.0 in
    let s = c.requires.stands.1.1 in
    let node : c.args.k + 1 ≡ suc c.args.k = omega arith in
    let is = members_are (seen_common c.seen.result) w c.args.o c.args.k (Some c.in-Ok-Some.members)
    (sym c.in-Ok-Some.field-0-is ∙ c.in-Ok-Some.ensures.members) (c.seen.ensures d w s) in
    record {
      declared = d;
      world = w;
      may = subst (λ (ms : List ℕ). MayGather d c.args.system.now w c.args.numbers.now ms (c.args.k + 1) None) (sym c.as_slice.ensures)
          (may d c.args.system.now w c.args.o c.args.k s c.in-Ok-Some.members is c.args.numbers.now c.requires.numbers (c.args.k + 1) node);
    }

pub returns-in-Ok-None-gather-clause-moved : goal.returns-in-Ok-None-gather-clause-moved
returns-in-Ok-None-gather-clause-moved c = λ d w s.
    let node : c.args.k + 1 ≡ suc c.args.k = omega arith in
    let is = members_are (seen_common c.seen.result) w c.args.o c.args.k (Some c.in-Ok-Some.members)
    (sym c.in-Ok-Some.field-0-is ∙ c.in-Ok-Some.ensures.members) (c.seen.ensures d w s) in
    let goes = may d c.args.system.now w c.args.o c.args.k s c.in-Ok-Some.members is c.args.numbers.now c.requires.numbers (c.args.k + 1)
    node in
    let done = from_none c.in-Ok-None-gather.field-0 c.in-Ok-None-gather.field-0-is c.in-Ok-None-gather.ensures.done d w
    (subst (λ (ms : List ℕ). MayGather d c.args.system.now w c.args.numbers.now ms (c.args.k + 1) None) (sym c.as_slice.ensures) goes) in
    has_moved d c.args.system.now w c.args.o c.args.k s c.in-Ok-Some.members is c.args.numbers.now c.requires.numbers (c.args.k + 1) node
    c.gather.new.system
    (subst (λ (ms : List ℕ). Gathers c.args.system.now c.gather.new.system w ms (c.args.k + 1) None) c.as_slice.ensures done)

pub returns-in-Ok-Some-gather-clause-refused : goal.returns-in-Ok-Some-gather-clause-refused
returns-in-Ok-Some-gather-clause-refused c = λ d w s.
    let node : c.args.k + 1 ≡ suc c.args.k = omega arith in
    let is = members_are (seen_common c.seen.result) w c.args.o c.args.k (Some c.in-Ok-Some.members)
    (sym c.in-Ok-Some.field-0-is ∙ c.in-Ok-Some.ensures.members) (c.seen.ensures d w s) in
    let goes = may d c.args.system.now w c.args.o c.args.k s c.in-Ok-Some.members is c.args.numbers.now c.requires.numbers (c.args.k + 1)
    node in
    let lack = c.in-Ok-Some-gather.lack in
    let full = from_some _ c.in-Ok-Some-gather.field-0 lack c.in-Ok-Some-gather.field-0-is c.in-Ok-Some-gather.ensures.full in
    let lacks = full.1 d w
    (subst (λ (ms : List ℕ). MayGather d c.args.system.now w c.args.numbers.now ms (c.args.k + 1) None) (sym c.as_slice.ensures) goes) in
    subst (λ (x : System). FoundFull c.args.system.now x w (OperatorMove w c.args.o c.args.k) lack) (sym full.0)
    (found_full d c.args.system.now w c.args.o c.args.k s c.in-Ok-Some.members is c.args.numbers.now c.requires.numbers (c.args.k + 1) node
    lack
    (subst (λ (ms : List ℕ). LacksFor c.args.system.now.cluster w ms (c.args.k + 1) None lack) c.as_slice.ensures lacks))
