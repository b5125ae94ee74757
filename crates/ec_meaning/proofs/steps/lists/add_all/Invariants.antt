use Rattle.std.proofs.Common.{◌≡◌, ◌++◌, length, map}
use Rattle.ec_meaning.specs.declared.item.Item.TheVariants as i
use Rattle.ec_meaning.proofs.steps.lists.add_all.Given as goal

-- what isn't pushed yet stands before what is
abbrev pub invariant-loop-addend : goal.invariant-loop-addend
invariant-loop-addend l = map i.Add l.addends ++ l.todo ≡ map i.Add l.initial.addends ++ l.initial.todo

abbrev pub decreases-loop-addend : goal.decreases-loop-addend
decreases-loop-addend l = length l.addends
