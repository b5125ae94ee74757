-- What is told of its system is told of the network.
use Rattle.std.proofs.Common.{sym, ◌∙◌, subst, ◌↔◌}
use Rattle.std.specs.Prelude.{IsTrue}
use Rattle.ec_cluster.specs.Whereabouts.{FewMoves}
use Rattle.ec_network.proofs.nodes_running.network.Network.can_move.Goals as goal
use Rattle.ec_network.specs.Nets.{Net}
use Rattle.ec_network.specs.Places.{known_on}

pub returns-in-Some : goal.returns-in-Some
returns-in-Some c =
    subst (λ (n : Net). IsTrue c.each_can_move.result ↔ FewMoves (known_on n)) (sym (sym c.self.view_is ∙ c.in-Some.is))
    c.each_can_move.ensures
