use Rattle.std.proofs.Common.{◌≡◌, ◌++◌, drop, map}
use Rattle.ec_core.specs.Literals.{joined, texts_of}
use Rattle.ec_core.specs.Literals.{texts_of_addend, texts_of_factor, texts_of_link}
use Rattle.ec_expressions.proofs.texts.+expressions.Given as goal

abbrev pub invariant-add_addends-loop-a : goal.invariant-add_addends-loop-a
invariant-add_addends-loop-a l =
    l.found ++ joined (map texts_of_addend (drop l.a-index l.addends))
    ≡ l.initial.found ++ joined (map texts_of_addend l.addends)

abbrev pub invariant-add_all-loop-x : goal.invariant-add_all-loop-x
invariant-add_all-loop-x l =
    l.found ++ joined (map texts_of (drop l.x-index l.xs)) ≡ l.initial.found ++ joined (map texts_of l.xs)

abbrev pub invariant-add_factors-loop-f : goal.invariant-add_factors-loop-f
invariant-add_factors-loop-f l =
    l.found ++ joined (map texts_of_factor (drop l.f-index l.factors))
    ≡ l.initial.found ++ joined (map texts_of_factor l.factors)

abbrev pub invariant-add_links-loop-link : goal.invariant-add_links-loop-link
invariant-add_links-loop-link l =
    l.found ++ joined (map texts_of_link (drop l.link-index l.links))
    ≡ l.initial.found ++ joined (map texts_of_link l.links)
