use Rattle.std.proofs.Common.{sym, ap, ◌∙◌}
use Rattle.std.specs.Prelude.{slice_get}
use Rattle.ec_types.specs.Names.{first_named}
use Rattle.ec_types.proofs.Named.{entry_found, entry_missing}
use Rattle.ec_types.proofs.scopes.entries.Entries.named.Goals as goal

pub returns-in-None : goal.returns-in-None
returns-in-None c =
    let name = c.args.name.now in
    let found = ap (λ names. first_named names name) (sym c.self.invariant) ∙ sym c.in_ok-first.ensures ∙ c.in-None.is in
    rw (← c.self.view_is) (sym (entry_missing c.self.inside.entries.items name found))

pub returns-in-Some : goal.returns-in-Some
returns-in-Some c =
    let name = c.args.name.now in
    let number = c.in-Some.number in
    let found = ap (λ names. first_named names name) (sym c.self.invariant) ∙ sym c.in_ok-first.ensures ∙ c.in-Some.is in
    let read = c.at.ensures ∙ ap (λ own. slice_get own number) c.as_slice.ensures.value in
    rw (← c.self.view_is) (read ∙ entry_found c.self.inside.entries.items name number found)
