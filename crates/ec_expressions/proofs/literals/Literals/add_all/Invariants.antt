use Rattle.std.proofs.Common.{◌≡◌, drop}
use Rattle.ec_emission.specs.Literals.{with_new}
use Rattle.ec_expressions.proofs.literals.Literals.add_all.Given as goal

abbrev pub invariant-loop-text : goal.invariant-loop-text
invariant-loop-text l = with_new l.self (drop l.text-index l.texts) ≡ with_new l.initial.self l.texts
