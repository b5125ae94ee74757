use Rattle.std.proofs.Common.{map, ap, ◌∙◌}
use Rattle.ec_types.specs.Types.{firsts_of, names_of, places_of, type_with}
use Rattle.ec_types.proofs.Distinct.{types_distinct}
use Rattle.ec_types.proofs.Tables.{built, made}
use Rattle.ec_types.proofs.conform.TypeTable.of_declarations.Goals as goal

pub new-requires-2 : goal.new-requires-2
new-requires-2 c = λ number. rw c.in_ok-types_with.ensures (types_distinct c.in_ok-names.names c.as_slice-written.result.now number)

pub returns : goal.returns
returns c =
    let types = c.as_slice-written.ensures in
    built c.args.declared.now
    (made c.in_ok-names.names c.in_ok-places.places c.in_ok-types.types c.in_ok-pairs.pairs.items c.in_ok-operations.operations.items)
    (c.in_ok-names.ensures ∙ ap names_of types)
    (c.in_ok-places.ensures ∙ c.in_ok-places_of.ensures ∙ ap places_of types)
    (c.in_ok-types.ensures ∙ c.in_ok-types_with.ensures ∙ ap (map (type_with c.in_ok-names.names)) types)
    (c.in_ok-operations.ensures ∙ ap firsts_of c.as_slice.ensures)
    c.in_ok-pairs.ensures
