-- The node that has a row shows the activation.
use Rattle.std.proofs.Common.{IsTrue, arith}
use Rattle.ec_cluster.proofs.Looking.{none_at_all, tells_of}
use Rattle.ec_cluster.proofs.finding.headings_at.Goals as goal

pub returns-then-has_frame-clause-some : goal.returns-then-has_frame-clause-some
returns-then-has_frame-clause-some c =
    tells_of c.args.cluster.now c.loop-k.k c.args.process c.args.depth c.at-node.result.now c.headings_of.result c.at-node.ensures
    (c.has_frame.ensures.there.0 (let t = c.if-has_frame.true in cc)) c.headings_of.ensures

pub returns-clause-none : goal.returns-clause-none
returns-clause-none c =
    none_at_all c.args.cluster.now c.args.process c.args.depth c.loop-k.k c.loop-k.invariant (omega (arith, c.len-k-end.ensures))
