-- The node's own tables are those of its kind.
use Rattle.std.proofs.Common.{◌∙◌, List, subst, sym}
use Rattle.ec_carrying.proofs.Stops.{tables_are}
use Rattle.ec_generate.specs.declared.table.OperationTable.{OperationTable}
use Rattle.ec_stores.specs.Node.{store_of}
use Rattle.ec_things.specs.Store.{Store}
use Rattle.ec_cluster.specs.Frames.{tables_on}
use Rattle.ec_carrying.proofs.At.{here_as, on_ok_so, unpacked_at}
use Rattle.ec_carrying.proofs.unpacking.unpack_at.Goals as goal
use Rattle.ec_carrying.specs.Unpacking.{CanUnpack, Unpacked}

pub unpack-requires : goal.unpack-requires
unpack-requires c =
    let s = store_of c.at_mut-node.result.now in
    let same = c.as_slice.ensures
    ∙ tables_are c.args.cluster.now.images s c.kind.result c.of-image.result.now c.kind.ensures.kind c.of-image.ensures in
    subst (λ (ts : List OperationTable). CanUnpack c.args.numbers.now ts s c.args.bytes.now) (sym same)
    (subst (λ (x : Store). CanUnpack c.args.numbers.now (tables_on c.args.cluster.now x.kind) x c.args.bytes.now)
    (here_as c.args.cluster.now c.args.to c.at_mut-node.result.now c.requires.store c.requires.there c.at_mut-node.ensures.value)
    c.requires.can)

pub returns : goal.returns
returns c =
    let s = store_of c.at_mut-node.result.now in
    let s' = store_of c.unpack.new.node in
    let same = c.as_slice.ensures
    ∙ tables_are c.args.cluster.now.images s c.kind.result c.of-image.result.now c.kind.ensures.kind c.of-image.ensures in
    on_ok_so c.unpack.result
    (λ unpacked x wire. unpacked_at c.args.numbers.now c.args.cluster.now c.args.to c.at_mut-node.result.now c.unpack.new.node x
    c.at_mut-node.ensures.value
    (subst (λ (ts : List OperationTable). Unpacked c.args.numbers.now ts x s s') same (unpacked x wire)))
    c.unpack.ensures
