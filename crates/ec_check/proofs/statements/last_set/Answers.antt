use Rattle.std.proofs.Common.{refl}
use Rattle.ec_base.proofs.Stacks.{top_of-push, below_of-push}
use Rattle.ec_check.proofs.statements.last_set.Goals as goal

pub returns-in-Some : goal.returns-in-Some
returns-in-Some c =
    let a = c.in-Some.ensures in
    let b = c.in-Some.is in
    rw (c.in-Some.ensures, top_of-push, below_of-push, c.element_set.ensures, c.with_links.ensures) refl
