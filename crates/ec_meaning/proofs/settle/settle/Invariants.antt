use Rattle.std.proofs.Common.{◌≡◌}
use Rattle.ec_meaning.specs.Meaning.{settle}
use Rattle.ec_meaning.specs.Sources.{source_of}
use Rattle.ec_meaning.specs.Weights.{weight}
use Rattle.ec_meaning.proofs.settle.settle.Given as goal

-- what is left leads where all of it leads
abbrev pub invariant-loop-item : goal.invariant-loop-item
invariant-loop-item l =
    settle (source_of l.program) l.whose (weight l.todo) l.state l.todo
    ≡ settle (source_of l.program) l.whose (weight l.initial.todo) l.initial.state l.initial.todo

abbrev pub decreases-loop-item : goal.decreases-loop-item
decreases-loop-item l = weight l.todo
