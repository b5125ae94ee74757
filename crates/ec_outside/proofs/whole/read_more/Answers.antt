use Rattle.std.proofs.Common.{◌∙◌, arith, rules}
use Rattle.std.proofs.lemmas.Grind.{common_steps}
use Rattle.ec_outside.proofs.Fronts.{front_more, whole_at_limit}
use Rattle.ec_outside.proofs.whole.read_more.Goals as goal

pub returns-then-n-gt0-clause-front : goal.returns-then-n-gt0-clause-front
returns-then-n-gt0-clause-front g c tells front =
    front_more (g.F.Shelf.content c.args.shelf.now c.args.name.now) _ _ c.read_at.new.buf c.len-2.result c.in_ok-n.n
    (c.len-2.ensures ∙ (search rules)) front (c.in_ok-n.ensures.read tells) c.in_ok-n.ensures.within
    c.in_ok-extend_from_slice.ensures.items

pub returns-then-n-gt0-clause-whole : goal.returns-then-n-gt0-clause-whole
returns-then-n-gt0-clause-whole g c full tells front =
    whole_at_limit (g.F.Shelf.content c.args.shelf.now c.args.name.now) _ c.read_at.new.buf _ c.in_ok-n.n _
    (returns-then-n-gt0-clause-front g c tells front) (c.in_ok-n.ensures.read tells) (grind (arith, common_steps))
