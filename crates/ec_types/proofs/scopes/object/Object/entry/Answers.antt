use Rattle.std.proofs.Common.{sym, ap, ◌∙◌}
use Rattle.std.specs.Option.{option_copied}
use Rattle.ec_types.proofs.Named.{entry_of_first, entry_of_second}
use Rattle.ec_types.proofs.scopes.object.Object.entry.Goals as goal

pub returns-in-Some : goal.returns-in-Some
returns-in-Some c =
    let self = c.args.self.now in
    let found = sym c.in_ok-local.ensures ∙ ap option_copied c.in-Some.is in
    sym (entry_of_first self.locals self.fields c.args.name.now c.in-Some.local.now found)

pub returns-in-None : goal.returns-in-None
returns-in-None c =
    let self = c.args.self.now in
    let missing = sym c.in_ok-local.ensures ∙ ap option_copied c.in-None.is in
    rw (entry_of_second self.locals self.fields c.args.name.now missing) c.named-in-None.ensures
