use Rattle.ec_code.specs.Marks.{Swept}
use Rattle.ec_code.proofs.marks.sweep.Given as goal

abbrev pub invariant-loop-q : goal.invariant-loop-q
invariant-loop-q l = Swept l.code l.x l.initial.marks.items l.q l.found l.marks.items
