use Rattle.std.proofs.Common.{[], option_map, sym, ap, ◌∙◌}
use Rattle.std.specs.Option.{unwrap_or}
use Rattle.std.proofs.lemmas.Option.{unwrap_or-slice_get}
use Rattle.ec_check.proofs.holders.name_at.Goals as goal

pub returns-in-None : goal.returns-in-None
returns-in-None c =
    ap (λ o. unwrap_or o []) (ap (option_map (λ name. name.now)) (sym c.in-None.is) ∙ c.get.ensures)
    ∙ unwrap_or-slice_get c.args.names.now c.args.at []

pub returns-in-Some : goal.returns-in-Some
returns-in-Some c =
    ap (λ o. unwrap_or o []) (ap (option_map (λ name. name.now)) (sym c.in-Some.is) ∙ c.get.ensures)
    ∙ unwrap_or-slice_get c.args.names.now c.args.at []
