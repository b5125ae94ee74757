-- A move on its system is one on the network.
use Rattle.std.proofs.Common.{sym, ◌∙◌, subst}
use Rattle.ec_cluster.specs.Whereabouts.{FewMoves, MovedOnce}
use Rattle.ec_network.proofs.Networks.{has_left, is_there, move_full, moved_left, net_moved}
use Rattle.ec_network.proofs.Places.{net_fixed_moved, net_together, nodes_home}
use Rattle.ec_network.specs.Moving.{MoveRefusedIn}
use Rattle.ec_network.specs.Nets.{Net}
use Rattle.ec_network.specs.Networks.{IsLoaded}
use Rattle.ec_network.specs.Places.{known_on}
use Rattle.ec_network.proofs.nodes_running.network.Network.operator_move.Goals as goal

pub shift-requires-clause-stands : goal.shift-requires-clause-stands
shift-requires-clause-stands c = (subst IsLoaded c.in-Some.is c.self.invariant).0

pub shift-requires-clause-numbers : goal.shift-requires-clause-numbers
shift-requires-clause-numbers c = (subst IsLoaded c.in-Some.is c.self.invariant).1

pub shift-requires-clause-few : goal.shift-requires-clause-few
shift-requires-clause-few c = subst (λ (n : Net). FewMoves (known_on n)) (sym c.self.view_is ∙ c.in-Some.is) c.requires.few

pub invariant_of-self-in-Ok : goal.invariant_of-self-in-Ok
invariant_of-self-in-Ok c =
    let loaded = subst IsLoaded c.in-Some.is c.self.invariant in
    has_left c.in-Some.loaded.system c.shift.new.system c.in-Some.loaded.numbers
    (moved_left c.in-Some.loaded.system c.shift.new.system c.args.o c.args.k c.in-Ok.did loaded.0 c.in-Ok.ensures.moved) loaded.1

pub returns-in-Ok-clause-moved : goal.returns-in-Ok-clause-moved
returns-in-Ok-clause-moved c =
    let is = sym c.self.view_is ∙ c.in-Some.is in (
      is_there c.args.self.now c.in-Some.loaded is,
      net_moved c.args.self.now c.in-Some.loaded
          (record { system = c.shift.new.system; numbers = c.in-Some.loaded.numbers }) c.args.o c.args.k c.in-Ok.did is c.in-Ok.ensures.moved,
    )

pub returns-in-Ok-clause-together : goal.returns-in-Ok-clause-together
returns-in-Ok-clause-together c =
    net_together c.args.self.now c.in-Some.loaded
    (record { system = c.shift.new.system; numbers = c.in-Some.loaded.numbers }) c.args.o c.args.k c.in-Ok.did
    (sym c.self.view_is ∙ c.in-Some.is) c.in-Ok.ensures.moved

pub returns-in-Ok-clause-fixed : goal.returns-in-Ok-clause-fixed
returns-in-Ok-clause-fixed c =
    net_fixed_moved c.args.self.now c.in-Some.loaded
    (record { system = c.shift.new.system; numbers = c.in-Some.loaded.numbers }) c.args.o c.args.k c.in-Ok.did
    (sym c.self.view_is ∙ c.in-Some.is) c.in-Ok.ensures.moved

pub returns-in-Ok-clause-nodes : goal.returns-in-Ok-clause-nodes
returns-in-Ok-clause-nodes c =
    let loaded = subst IsLoaded c.in-Some.is c.self.invariant in
    nodes_home (record { system = c.shift.new.system; numbers = c.in-Some.loaded.numbers })
    (moved_left c.in-Some.loaded.system c.shift.new.system c.args.o c.args.k c.in-Ok.did loaded.0 c.in-Ok.ensures.moved).stands

pub returns-in-Ok-clause-moves : goal.returns-in-Ok-clause-moves
returns-in-Ok-clause-moves c =
    subst (λ (n : Net). MovedOnce (known_on n) c.shift.new.system.cluster.whereabouts) (sym (sym c.self.view_is ∙ c.in-Some.is))
    c.in-Ok.ensures.moves

pub returns-in-Err-Full-clause-refused : goal.returns-in-Err-Full-clause-refused
returns-in-Err-Full-clause-refused c =
    let is = sym c.self.view_is ∙ c.in-Some.is in (
      is_there c.args.self.now c.in-Some.loaded is,
      move_full c.args.self.now c.in-Some.loaded
          (record { system = c.shift.new.system; numbers = c.in-Some.loaded.numbers }) c.args.o c.args.k c.in-Err-Full.lack is
          (λ d w s. subst (λ e. MoveRefusedIn c.in-Some.loaded.system c.shift.new.system w c.args.o c.args.k e) c.in-Err-Full.field-0-is
          (c.in-Err-Full.ensures.refused d w s)),
    )
