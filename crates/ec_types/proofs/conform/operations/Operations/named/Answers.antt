use Rattle.std.proofs.Common.{◌≡◌, Option, Some, None, ap, sym, subst, ◌∙◌}
use Rattle.std.specs.List.{slice_get}
use Rattle.std.specs.Option.{option_and_then, option_copied}
use Rattle.ec_types.specs.Names.{first_named}
use Rattle.ec_types.specs.Types.{operation_names, operation_named}
use Rattle.ec_types.specs.declared.conform.operations.NamedOperation.{NamedOperation}
use Rattle.ec_types.proofs.NamesLemmas.{named_at}
use Rattle.ec_types.proofs.conform.operations.Operations.named.Goals as goal

pub returns-in-None : goal.returns-in-None
returns-in-None c =
    let operations = c.self.inside.operations in
    let name = c.args.name.now in
    let absent : first_named (operation_names operations) name ≡ None =
    rw c.self.invariant at (sym c.in_ok-first.ensures ∙ c.in-None.is) in
    let found = named_at operations name ∙ ap (option_and_then (slice_get operations)) absent in
    subst (λ os. ◌≡◌ {A = Option NamedOperation} None (operation_named os name)) c.self.view_is (sym found)

pub returns-in-Some : goal.returns-in-Some
returns-in-Some c =
    let operations = c.self.inside.operations in
    let name = c.args.name.now in
    let there : first_named (operation_names operations) name ≡ Some c.in-Some.number =
    rw c.self.invariant at (sym c.in_ok-first.ensures ∙ c.in-Some.is) in
    let found = named_at operations name ∙ ap (option_and_then (slice_get operations)) there in
    subst (λ os. option_copied c.get.result ≡ operation_named os name) c.self.view_is (c.get.ensures.value ∙ sym found)
