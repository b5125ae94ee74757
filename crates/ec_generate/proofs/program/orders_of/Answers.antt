use Rattle.std.proofs.Common.{◌∷◌, [], ap, arith, length, length-append}
use Rattle.ec_base.proofs.Lists.{get_within}
use Rattle.ec_generate.proofs.Orders.{more_orders}
use Rattle.ec_generate.proofs.program.orders_of.Goals as goal

pub loop-n-init : goal.loop-n-init
loop-n-init c = record { long = ap length c.new-orders.ensures; each = λ k o lt e. absurd (omega (arith, lt)) }

pub loop-n-preserved : goal.loop-n-preserved
loop-n-preserved c = record {
  long = omega (
    arith,
    ap length c.in_ok-push.ensures.ok,
    length-append c.loop-n.orders (c.in_ok-order_of.field-0 ∷ []),
    c.loop-n.invariant.long,
  );
  each = more_orders c.args.parts.now.operations c.loop-n.orders c.push.new.self c.in_ok-order_of.field-0 c.loop-n.n c.at.result.now
      c.in_ok-push.ensures.ok c.loop-n.invariant.long c.at.ensures c.in_ok-order_of.ensures c.loop-n.invariant.each;
}

pub returns-clause-ordered : goal.returns-clause-ordered
returns-clause-ordered c = λ n o e. c.loop-n.invariant.each n o (let lt = get_within c.args.parts.now.operations n o e in omega (arith, lt)) e

pub returns-clause-many : goal.returns-clause-many
returns-clause-many c = omega (arith, c.loop-n.invariant.long)
