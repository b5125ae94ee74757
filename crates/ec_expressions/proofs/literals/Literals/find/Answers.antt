use Rattle.std.proofs.Common.{ap, ◌∙◌}
use Rattle.ec_expressions.specs.Places.{place_from}
use Rattle.ec_expressions.proofs.literals.Literals.find.Goals as goal

-- the map has the place of the text at its bytes
pub returns : goal.returns
returns c =
    let there = c.self.invariant c.in_ok-key.key ∙ ap (place_from 0 c.self.inside.texts.items) c.in_ok-key.ensures.items in
    c.copied.ensures ∙ rw c.as_slice.ensures.value at c.get.ensures.value ∙ rw c.self.view_is at there
