use Rattle.std.proofs.Common.{◌≡◌, ◌++◌, length, map}
use Rattle.ec_meaning.specs.declared.item.Item.TheVariants as i
use Rattle.ec_meaning.proofs.steps.lists.multiply_all.Given as goal

-- what isn't pushed yet stands before what is
abbrev pub invariant-loop-factor : goal.invariant-loop-factor
invariant-loop-factor l = map i.Multiply l.factors ++ l.todo ≡ map i.Multiply l.initial.factors ++ l.initial.todo

abbrev pub decreases-loop-factor : goal.decreases-loop-factor
decreases-loop-factor l = length l.factors
