-- The flag that is seen is the one in each world.
use Rattle.std.proofs.Common.{sym, ◌∙◌}
use Rattle.ec_network.proofs.Networks.{for_standing}
use Rattle.ec_network.proofs.Reading.{fixed_read, none_read}
use Rattle.ec_network.proofs.nodes_running.network.Network.is_fixed.Goals as goal
use Rattle.ec_cluster.specs.Decoded.{seen_common}

pub returns-in-Some : goal.returns-in-Some
returns-in-Some c = for_standing _ c.args.self.now c.standing.result.now c.standing.ensures.is
    (λ d w s. fixed_read (seen_common c.seen-seen.result) w c.args.oid (c.seen-seen.ensures d w s) c.in-Some.field-0 c.is_fixed.result
    (sym c.in-Some.is ∙ c.class_of.ensures) c.is_fixed.ensures)

pub returns-in-None : goal.returns-in-None
returns-in-None c = for_standing _ c.args.self.now c.standing.result.now c.standing.ensures.is
    (λ d w s. none_read (seen_common c.seen-seen.result) w c.args.oid (c.seen-seen.ensures d w s) (sym c.in-None.is ∙ c.class_of.ensures))
