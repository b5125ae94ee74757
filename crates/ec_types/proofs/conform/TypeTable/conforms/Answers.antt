use Rattle.std.proofs.Common.{◌≡◌, ◌↔◌, true, subst}
use Rattle.ec_types.specs.Conforms.{Conforms}
use Rattle.ec_types.proofs.Striking.{answers}
use Rattle.ec_types.proofs.conform.TypeTable.conforms.Goals as goal

pub returns-clause-relation : goal.returns-clause-relation
returns-clause-relation c =
    subst (λ table. (c.conforms_by.result ≡ true) ↔ Conforms table.types c.args.s c.args.t) c.self.view_is
    (rw (c.conforms_by.ensures, c.as_slice.ensures.value)
    (answers c.self.inside.types c.self.inside.pairs.items c.self.invariant c.args.s c.args.t))
