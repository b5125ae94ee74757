use Rattle.std.proofs.Common.{◌≡◌, ◌++◌, length, map}
use Rattle.ec_meaning.specs.declared.item.Item.TheVariants as i
use Rattle.ec_meaning.proofs.steps.lists.and_all.Given as goal

-- what isn't pushed yet stands before what is
abbrev pub invariant-loop-x : goal.invariant-loop-x
invariant-loop-x l = map i.AndThen l.xs ++ l.todo ≡ map i.AndThen l.initial.xs ++ l.initial.todo

abbrev pub decreases-loop-x : goal.decreases-loop-x
decreases-loop-x l = length l.xs
