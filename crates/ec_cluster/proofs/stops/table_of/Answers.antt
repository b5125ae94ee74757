-- The operation is that of the headings.
use Rattle.ec_cluster.specs.Images.{homes_on}
use Rattle.ec_cluster.proofs.Resting.{table_there}
use Rattle.ec_cluster.proofs.Tables.{table_got, table_within}
use Rattle.ec_cluster.proofs.stops.table_of.Goals as goal
use Rattle.ec_cluster.specs.Stops.{tables_for}
use Rattle.ec_stores.specs.Node.{store_of}

pub at-requires : goal.at-requires
at-requires c =
    let s = store_of c.args.node.now in
    let images = c.args.images.now in
    let r = c.requires.rests in
    let h = c.headings_of-headings.ensures c.requires.program (homes_on images) c.requires.activation r.shown in
    let t = table_there c.requires.declared c.requires.program s.kind (homes_on images) (tables_for images s) r.has c.requires.activation
    c.requires.entry r.rests in
    table_within images s c.kind.result c.of.result.now c.kind.ensures.kind c.of.ensures c.requires.activation.operation
    c.headings_of-headings.result.operation t.0 h.operation t.1

pub returns : goal.returns
returns c = λ d p a e there.
    let s = store_of c.args.node.now in
    let images = c.args.images.now in
    let h = c.headings_of-headings.ensures p (homes_on images) a there.shown in
    table_got images s c.kind.result c.of.result.now c.kind.ensures.kind c.of.ensures a.operation c.headings_of-headings.result.operation
    c.at.result.now h.operation c.at.ensures
