use Rattle.std.proofs.Common.{◌≡◌, take}
use Rattle.ec_meaning.proofs.copies.+expressions.Given as goal

abbrev pub invariant-copy_addends-loop-a : goal.invariant-copy_addends-loop-a
invariant-copy_addends-loop-a l = l.copied ≡ take l.a-index l.addends

abbrev pub invariant-copy_expressions-loop-x : goal.invariant-copy_expressions-loop-x
invariant-copy_expressions-loop-x l = l.copied ≡ take l.x-index l.xs

abbrev pub invariant-copy_factors-loop-f : goal.invariant-copy_factors-loop-f
invariant-copy_factors-loop-f l = l.copied ≡ take l.f-index l.factors

abbrev pub invariant-copy_links-loop-link : goal.invariant-copy_links-loop-link
invariant-copy_links-loop-link l = l.copied ≡ take l.link-index l.links
