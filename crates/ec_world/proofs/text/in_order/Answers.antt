use Rattle.ec_world.proofs.TextOrder.{less, less_equal, more, more_equal}
use Rattle.ec_world.proofs.text.in_order.Goals as goal

pub returns-in-Less : goal.returns-in-Less
returns-in-Less c = rw c.in-Less.is (less c.args.s.now c.args.t.now c.lt.result c.lt.ensures)

pub returns-in-LessEqual : goal.returns-in-LessEqual
returns-in-LessEqual c = rw c.in-LessEqual.is (less_equal c.args.s.now c.args.t.now c.le.result c.le.ensures)

pub returns-in-More : goal.returns-in-More
returns-in-More c = rw c.in-More.is (more c.args.s.now c.args.t.now c.gt.result c.gt.ensures)

pub returns-in-MoreEqual : goal.returns-in-MoreEqual
returns-in-MoreEqual c = rw c.in-MoreEqual.is (more_equal c.args.s.now c.args.t.now c.ge.result c.ge.ensures)
