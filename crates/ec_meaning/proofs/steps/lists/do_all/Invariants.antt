use Rattle.std.proofs.Common.{◌≡◌, ◌++◌, length, map}
use Rattle.ec_meaning.specs.declared.item.Item.TheVariants as i
use Rattle.ec_meaning.proofs.steps.lists.do_all.Given as goal

-- what isn't pushed yet stands before what is
abbrev pub invariant-loop-statement : goal.invariant-loop-statement
invariant-loop-statement l = map i.Do l.statements ++ l.todo ≡ map i.Do l.initial.statements ++ l.initial.todo

abbrev pub decreases-loop-statement : goal.decreases-loop-statement
decreases-loop-statement l = length l.statements
