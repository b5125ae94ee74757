use Rattle.std.proofs.Common.{refl}
use Rattle.ec_expressions.proofs.literals.Literals.new.Goals as goal

pub invariant_of-result : goal.invariant_of-result
invariant_of-result c = λ key. rw (c.new.ensures.items, c.new-2.ensures.empty) refl
