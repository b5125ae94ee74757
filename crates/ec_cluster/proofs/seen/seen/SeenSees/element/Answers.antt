-- An element is read from its word.
use Rattle.std.proofs.Common.{ap, sym, ◌∙◌}
use Rattle.ec_objects.specs.Values.{value_of}
use Rattle.ec_cluster.proofs.Elements.{element_past, element_seen}
use Rattle.ec_cluster.proofs.seen.seen.SeenSees.element.Goals as goal
use Rattle.ec_stores.specs.Node.{store_of}
use Rattle.ec_world.specs.declared.value.ValueType.{ValueType}

pub returns-then-index-object : goal.returns-then-index-object
returns-then-index-object c =
    sym (element_past c.args.self.now c.args.oid (store_of c.in-Some.node.now) c.in-Some.object c.in-Some.ensures.some c.in-Vector.of
    c.args.index c.in-Vector.is c.if-index-object.true)

pub returns : goal.returns
returns c =
    let read =
    ap (λ (kind : ValueType). value_of (store_of c.in-Some.node.now) kind c.object_word-word.result) (sym c.elements.ensures)
    ∙ c.in_ok-value_of.ensures in
    sym (element_seen c.args.self.now c.args.oid (store_of c.in-Some.node.now) c.in-Some.object c.in-Some.ensures.some c.in-Vector.of
    c.args.index c.object_word-word.result c.in_ok-value_of.field-0 c.in-Vector.is c.object_word-word.ensures c.if-index-object.false read)
