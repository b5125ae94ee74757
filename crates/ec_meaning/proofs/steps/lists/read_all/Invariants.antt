use Rattle.std.proofs.Common.{◌≡◌, ◌++◌, length, map}
use Rattle.ec_core.specs.declared.Expression.TheVariants as e
use Rattle.ec_meaning.specs.declared.item.Item.TheVariants as i
use Rattle.ec_meaning.proofs.steps.lists.read_all.Given as goal

-- what isn't pushed yet stands before what is
abbrev pub invariant-loop-place : goal.invariant-loop-place
invariant-loop-place l =
    map (λ p. i.Evaluate (e.Read p)) l.places ++ l.todo ≡ map (λ p. i.Evaluate (e.Read p)) l.initial.places ++ l.initial.todo

abbrev pub decreases-loop-place : goal.decreases-loop-place
decreases-loop-place l = length l.places
