use Rattle.std.proofs.Common.{◌≡◌, [], ◌∷◌, MatchOption, reverse}
use Rattle.ec_meaning.proofs.Todos.{popped}
use Rattle.ec_meaning.proofs.todo.Todo.pop.Goals as goal

pub returns : goal.returns
returns c =
    let e = popped c.self.inside.items c.pop.new.self c.pop.result c.pop.ensures.top c.pop.ensures.below in
    rw (← c.self.view_is) e
