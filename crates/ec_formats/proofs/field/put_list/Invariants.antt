use Rattle.std.proofs.Common.{◌≡◌, ◌++◌, true, take, drop}
use Rattle.ec_formats.specs.Lists.{list_spelling, items_spell, items_fit}
use Rattle.ec_formats.proofs.field.put_list.Given as goal

abbrev pub invariant-loop-i : goal.invariant-loop-i
invariant-loop-i g l =
    let before = take l.i l.items in
    let after = drop l.i l.items in
    (l.out.items ++ items_spell g.T.Field.format before after ≡ l.fn.out.items ++ list_spelling g.T.Field.format l.items)
    × (items_fit g.T.Field.format before after ≡ true)
