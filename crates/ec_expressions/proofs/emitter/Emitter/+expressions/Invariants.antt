use Rattle.std.proofs.Common.{◌≡◌, drop}
use Rattle.ec_expressions.specs.Emitting.{addends_onto, all_onto, factors_onto, links_onto, needed_onto}
use Rattle.ec_expressions.proofs.emitter.Emitter.+expressions.Given as goal

abbrev pub invariant-addends-loop-n : goal.invariant-addends-loop-n
invariant-addends-loop-n l = l.out ≡ addends_onto l.self l.n (drop l.n l.addends) l.left l.h l.initial.out

abbrev pub invariant-all-loop-n : goal.invariant-all-loop-n
invariant-all-loop-n l = l.out ≡ all_onto l.self l.h l.n (drop l.n l.xs) l.initial.out

abbrev pub invariant-factors-loop-n : goal.invariant-factors-loop-n
invariant-factors-loop-n l = l.out ≡ factors_onto l.self l.n (drop l.n l.factors) l.left l.h l.initial.out

abbrev pub invariant-links-loop-n : goal.invariant-links-loop-n
invariant-links-loop-n l = l.out ≡ links_onto l.self l.is_own l.n (drop l.n l.links) l.h l.initial.out

abbrev pub invariant-needed-loop-n : goal.invariant-needed-loop-n
invariant-needed-loop-n l = l.out ≡ needed_onto l.self l.wanted (drop l.n l.xs) l.h l.initial.out
