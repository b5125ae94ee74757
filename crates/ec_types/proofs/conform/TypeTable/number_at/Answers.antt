use Rattle.std.proofs.Common.{◌≡◌, length, ap, sym, subst, ◌∙◌}
use Rattle.std.specs.Option.{unwrap_or}
use Rattle.ec_types.specs.Types.{number_at}
use Rattle.ec_types.proofs.Rows.{number_at_place}
use Rattle.ec_types.proofs.conform.TypeTable.number_at.Goals as goal

pub returns-in-None : goal.returns-in-None
returns-in-None c =
    let places = c.self.inside.places in
    subst (λ table. c.len.result ≡ number_at table.places c.args.at.from) c.self.view_is
    (c.len.ensures
    ∙ sym (number_at_place places c.args.at.from ∙ ap (λ found. unwrap_or found (length places)) (sym c.in-None.ensures)))

pub returns-in-Some : goal.returns-in-Some
returns-in-Some c =
    let places = c.self.inside.places in
    subst (λ table. c.in-Some.number ≡ number_at table.places c.args.at.from) c.self.view_is
    (sym (number_at_place places c.args.at.from ∙ ap (λ found. unwrap_or found (length places)) (sym c.in-Some.ensures)))
