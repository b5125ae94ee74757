use Rattle.std.proofs.Common.{ap, ◌∙◌}
use Rattle.std.specs.Str.{str_to_ascii_lowercase}
use Rattle.ec_types.proofs.names.Names.first.Goals as goal

-- the map has the first of the name at its letters in lower case
pub returns : goal.returns
returns c =
    let letters = c.folded-letters.ensures ∙ ap str_to_ascii_lowercase c.in_ok-from_slice.ensures.items in
    let there = c.self.invariant c.args.name.now c.folded-letters.result letters in
    c.copied.ensures ∙ rw c.as_slice.ensures.value at c.get.ensures.value ∙ rw c.self.view_is at there
