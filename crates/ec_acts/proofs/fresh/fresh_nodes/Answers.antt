-- One node more.
use Rattle.std.proofs.Common.{Some, sym, ap, ◌∙◌, arith}
use Rattle.std.proofs.lemmas.Option.{slice_get-get_or}
use Rattle.ec_acts.proofs.Starting.{none_at_first, one_at_first}
use Rattle.ec_acts.proofs.fresh.fresh_nodes.Goals as goal

pub loop-k-init : goal.loop-k-init
loop-k-init c = none_at_first c.args.parts.now c.args.specs.now c.new-nodes.result c.new-nodes.ensures

pub fresh_node-requires : goal.fresh_node-requires
fresh_node-requires c =
    c.requires c.loop-k.k c.index-specs-k.result
    (slice_get-get_or c.args.specs.now c.loop-k.k c.index-specs-k.result (omega arith) ∙ ap Some (sym c.index-specs-k.is))

pub loop-k-preserved : goal.loop-k-preserved
loop-k-preserved c =
    one_at_first c.args.parts.now c.args.specs.now c.loop-k.k c.loop-k.nodes c.push.new.self c.in_ok-node.node c.index-specs-k.result
    c.loop-k.invariant
    (slice_get-get_or c.args.specs.now c.loop-k.k c.index-specs-k.result (omega arith) ∙ ap Some (sym c.index-specs-k.is))
    c.in_ok-node.ensures c.in_ok-push.ensures.ok
