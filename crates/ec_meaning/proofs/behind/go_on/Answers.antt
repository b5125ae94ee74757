use Rattle.std.proofs.Common.{◌≡◌}
use Rattle.ec_meaning.specs.Running.{settled_at}
use Rattle.ec_meaning.specs.Sources.{source_of}
use Rattle.ec_meaning.proofs.Resuming.{goes_on}
use Rattle.ec_meaning.proofs.behind.go_on.Goals as goal

pub returns : goal.returns
returns c =
    goes_on (source_of c.args.program.now) c.args.common c.args.a
    c.replace-variables.result c.replace-held.result c.in_ok-variables.variables c.replace-variables.new.dest c.replace-held.new.dest
    c.replace-items.result c.in_ok-todo.todo c.replace-items.new.dest
    (settled_at c.in_ok-reached.reached c.settle.new.state c.settle.new.todo) c.resting.result
    c.replace-variables.ensures.value c.replace-held.ensures.value c.replace-items.ensures.value
    c.in_ok-variables.ensures c.in_ok-todo.ensures c.in_ok-reached.ensures c.resting.ensures
