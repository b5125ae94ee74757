-- The table is that of the operation on the kind of the node.
use Rattle.std.proofs.Common.{◌∷◌, List, ap, map, refl, sym, ◌∙◌, subst}
use Rattle.std.proofs.lemmas.Option.{same_Some}
use Rattle.ec_cluster.proofs.Answered.{if_ok}
use Rattle.ec_cluster.proofs.Tables.{table_got, table_within}
use Rattle.ec_code.specs.declared.code.Live.{Live}
use Rattle.ec_fullness.proofs.Telling.{start_told, told_ok}
use Rattle.ec_fullness.proofs.starting.lack_to_start.Goals as goal
use Rattle.ec_node_frames.specs.Beginning.{HasEntry, first_value}
use Rattle.ec_generate.specs.declared.table.OperationTable.{OperationTable}
use Rattle.ec_stores.specs.Node.{store_of}
use Rattle.ec_world.specs.declared.value.Value.TheVariants.{Ref}

pub at-table-requires : goal.at-table-requires
at-table-requires c =
    let s = store_of c.at-node.result.now in
    let t = c.requires.entry s.kind in
    table_within c.args.cluster.now.images s c.kind.result c.of-image.result.now c.kind.ensures.kind c.of-image.ensures c.args.operation
    c.args.operation t.0 refl t.1

pub first_held-requires : goal.first_held-requires
first_held-requires c =
    let s = store_of c.at-node.result.now in
    let t = c.requires.entry s.kind in
    let got = table_got c.args.cluster.now.images s c.kind.result c.of-image.result.now c.kind.ensures.kind c.of-image.ensures
    c.args.operation c.args.operation c.at-table.result.now refl c.at-table.ensures in
    subst (λ (u : OperationTable). HasEntry u) (same_Some t.0 c.at-table.result.now (sym t.1 ∙ got)) t.2

pub returns : goal.returns
returns c =
    let cluster = c.args.cluster.now in
    let s = store_of c.at-node.result.now in
    let got = table_got cluster.images s c.kind.result c.of-image.result.now c.kind.ensures.kind c.of-image.ensures c.args.operation
    c.args.operation c.at-table.result.now refl c.at-table.ensures in
    let vs = c.as_slice-2.result.now in
    if_ok c.lack_of.result
    (λ r told. start_told cluster c.args.own c.node_of-k.result c.at-node.result.now c.args.operation c.args.arguments.now
    c.at-table.result.now vs r c.node_of-k.ensures c.at-node.ensures got
    (c.as_slice-2.ensures.value ∙ c.in_ok-values.ensures
    ∙ ap (λ (ls : List Live). Ref c.args.own ∷ map (λ (l : Live). first_value c.args.arguments.now l.variable) ls)
    (c.as_slice.ensures.value ∙ c.in_ok-live.ensures)) told)
    (told_ok cluster c.args.own c.node_of-k.result c.at-node.result.now c.node_of-k.ensures c.at-node.ensures 1 vs c.lack_of.result
    c.lack_of.ensures.some c.lack_of.ensures.none)
