use Rattle.std.proofs.Common.{◌<◌, length, Some, ap, sym, ◌∙◌}
use Rattle.ec_base.proofs.Stacks.{top_of_last}
use Rattle.ec_wire.proofs.Ends.{not_empty}
use Rattle.ec_wire.proofs.fields.last_of.Goals as goal

pub returns-clause-some : goal.returns-clause-some
returns-clause-some g c =
    let some : 0 < length c.args.before.now = not_empty c.args.before.now (sym c.is_empty.ensures ∙ c.if-is_empty.false) in
    top_of_last c.args.before.now c.index-before-before.result some ∙ ap Some (sym c.index-before-before.is)
