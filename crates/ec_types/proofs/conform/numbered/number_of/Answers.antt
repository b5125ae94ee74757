use Rattle.std.proofs.Common.{◌≡◌, Some, None, ap, sym, ◌∙◌, arith}
use Rattle.ec_types.specs.Names.{first_named}
use Rattle.ec_types.proofs.NamesLemmas.{first_kept, first_new}
use Rattle.ec_types.proofs.conform.numbered.number_of.Goals as goal

pub returns-in_ok-push-in-None : goal.returns-in_ok-push-in-None
returns-in_ok-push-in-None c =
    let absent : first_named c.args.names.now c.args.name.now ≡ None = sym c.in_ok-number.ensures ∙ c.in-None.is in
    rw c.in_ok-push-in-None.ensures.added (
      first_new 0 c.args.names.now c.args.name.now absent ∙ ap Some (omega arith),
      λ name number e. first_kept 0 c.args.names.now _ name number e,
    )
