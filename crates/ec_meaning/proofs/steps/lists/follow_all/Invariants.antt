use Rattle.std.proofs.Common.{◌≡◌, ◌++◌, length, map}
use Rattle.ec_meaning.specs.declared.item.Item.TheVariants as i
use Rattle.ec_meaning.proofs.steps.lists.follow_all.Given as goal

-- what isn't pushed yet stands before what is
abbrev pub invariant-loop-link : goal.invariant-loop-link
invariant-loop-link l = map i.Follow l.links ++ l.todo ≡ map i.Follow l.initial.links ++ l.initial.todo

abbrev pub decreases-loop-link : goal.decreases-loop-link
decreases-loop-link l = length l.links
