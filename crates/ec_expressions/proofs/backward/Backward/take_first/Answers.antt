use Rattle.ec_meaning.proofs.Todos.{popped}
use Rattle.ec_expressions.proofs.backward.Backward.take_first.Goals as goal

pub returns : goal.returns
returns c =
    let e = popped c.self.inside.ops c.pop.new.self c.pop.result c.pop.ensures.top c.pop.ensures.below in
    rw (← c.self.view_is) e
