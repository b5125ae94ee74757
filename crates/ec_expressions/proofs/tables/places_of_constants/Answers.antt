use Rattle.std.proofs.Common.{◌-◌, arith}
use Rattle.ec_core.specs.declared.Constant.{Constant}
use Rattle.ec_expressions.proofs.Numbers.{one_more}
use Rattle.ec_expressions.proofs.tables.places_of_constants.Goals as goal

pub loop-n-preserved : goal.loop-n-preserved
loop-n-preserved c =
    one_more (λ (x : Constant). x.number) c.args.constants.now (c.loop-n.n - 1) c.loop-n.n c.index-constants-n.result c.loop-n.places
    c.enter.new.places (omega arith) (omega arith) c.index-constants-n.is c.in_ok-enter.ensures c.loop-n.invariant
