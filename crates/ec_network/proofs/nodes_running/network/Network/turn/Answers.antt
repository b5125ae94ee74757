-- A turn of its system is one of the network.
use Rattle.std.proofs.Common.{sym, ◌∙◌, subst}
use Rattle.ec_cluster.specs.Whereabouts.{FewMoves, MovedOnce}
use Rattle.ec_network.proofs.Networks.{has_left, is_there, net_full, net_turned, turned_left}
use Rattle.ec_network.proofs.Places.{net_fixed_turned, nodes_home}
use Rattle.ec_network.specs.Nets.{Net}
use Rattle.ec_network.specs.Networks.{IsLoaded}
use Rattle.ec_network.specs.Places.{known_on}
use Rattle.ec_network.specs.Turns.{RefusedIn}
use Rattle.ec_network.proofs.nodes_running.network.Network.turn.Goals as goal

pub turn-requires-clause-stands : goal.turn-requires-clause-stands
turn-requires-clause-stands c = (subst IsLoaded c.in-Some.is c.self.invariant).0

pub turn-requires-clause-numbers : goal.turn-requires-clause-numbers
turn-requires-clause-numbers c = (subst IsLoaded c.in-Some.is c.self.invariant).1

pub turn-requires-clause-few : goal.turn-requires-clause-few
turn-requires-clause-few c = subst (λ (n : Net). FewMoves (known_on n)) (sym c.self.view_is ∙ c.in-Some.is) c.requires.few

pub invariant_of-self-in-Ok : goal.invariant_of-self-in-Ok
invariant_of-self-in-Ok c =
    let loaded = subst IsLoaded c.in-Some.is c.self.invariant in
    has_left c.in-Some.loaded.system c.turn.new.system c.in-Some.loaded.numbers
    (turned_left c.in-Some.loaded.system c.turn.new.system c.args.p c.in-Ok.did loaded.0 c.in-Ok.ensures.turned) loaded.1

pub returns-in-Ok-clause-turned : goal.returns-in-Ok-clause-turned
returns-in-Ok-clause-turned c =
    let is = sym c.self.view_is ∙ c.in-Some.is in (
      is_there c.args.self.now c.in-Some.loaded is,
      net_turned c.args.self.now c.in-Some.loaded
          (record { system = c.turn.new.system; numbers = c.in-Some.loaded.numbers }) c.args.p c.in-Ok.did is c.in-Ok.ensures.turned,
    )

pub returns-in-Ok-clause-fixed : goal.returns-in-Ok-clause-fixed
returns-in-Ok-clause-fixed c =
    net_fixed_turned c.args.self.now c.in-Some.loaded
    (record { system = c.turn.new.system; numbers = c.in-Some.loaded.numbers }) c.args.p c.in-Ok.did
    (sym c.self.view_is ∙ c.in-Some.is) c.in-Ok.ensures.turned

pub returns-in-Ok-clause-nodes : goal.returns-in-Ok-clause-nodes
returns-in-Ok-clause-nodes c =
    let loaded = subst IsLoaded c.in-Some.is c.self.invariant in
    nodes_home (record { system = c.turn.new.system; numbers = c.in-Some.loaded.numbers })
    (turned_left c.in-Some.loaded.system c.turn.new.system c.args.p c.in-Ok.did loaded.0 c.in-Ok.ensures.turned).stands

pub returns-in-Ok-clause-moves : goal.returns-in-Ok-clause-moves
returns-in-Ok-clause-moves c =
    subst (λ (n : Net). MovedOnce (known_on n) c.turn.new.system.cluster.whereabouts) (sym (sym c.self.view_is ∙ c.in-Some.is))
    c.in-Ok.ensures.moves

pub returns-in-Err-Full-clause-refused : goal.returns-in-Err-Full-clause-refused
returns-in-Err-Full-clause-refused c =
    let is = sym c.self.view_is ∙ c.in-Some.is in (
      is_there c.args.self.now c.in-Some.loaded is,
      net_full c.args.self.now c.in-Some.loaded
          (record { system = c.turn.new.system; numbers = c.in-Some.loaded.numbers }) c.args.p c.in-Err-Full.lack is
          (λ d w s. subst (λ e. RefusedIn c.in-Some.loaded.system c.turn.new.system w c.args.p e) c.in-Err-Full.field-0-is
          (c.in-Err-Full.ensures.refused d w s)),
    )
