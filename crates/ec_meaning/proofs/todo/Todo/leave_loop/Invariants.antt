use Rattle.std.proofs.Common.{◌≡◌, length}
use Rattle.ec_meaning.specs.Meaning.{behind_loop}
use Rattle.ec_meaning.proofs.todo.Todo.leave_loop.Given as goal

-- what is behind the loop stays
abbrev pub invariant-loop-item : goal.invariant-loop-item
invariant-loop-item l = behind_loop l.self ≡ behind_loop l.initial.self

abbrev pub decreases-loop-item : goal.decreases-loop-item
decreases-loop-item l = length l.self
