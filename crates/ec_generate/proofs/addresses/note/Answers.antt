use Rattle.std.proofs.Common.{arith}
use Rattle.ec_base.proofs.Lists.{get_within}
use Rattle.ec_generate.proofs.Noting.{one_noted}
use Rattle.ec_generate.proofs.addresses.note.Goals as goal

pub loop-n-preserved : goal.loop-n-preserved
loop-n-preserved c = one_noted c.loop-n.n c.args.at.now c.loop-n.at c.insert.new.self c.args.operation c.args.stops.now c.at.result.now
    c.at.ensures c.requires.apart c.in_ok-insert.ensures.updates c.loop-n.invariant

pub returns : goal.returns
returns c = record {
  each = λ n a e. c.loop-n.invariant.each n a (omega (arith, get_within c.args.stops.now n a e)) e;
  others = λ a none. c.loop-n.invariant.others a (λ n lt. none n);
}
