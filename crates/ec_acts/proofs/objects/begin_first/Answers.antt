-- The activation is put at node 0.
use Rattle.std.proofs.Common.{ap, ◌∙◌, sym, subst, refl}
use Rattle.std.specs.Prelude.{option_map}
use Rattle.std.proofs.lemmas.Option.{same_Some}
use Rattle.ec_cluster.proofs.Answered.{on_ok_two}
use Rattle.ec_cluster.proofs.Tables.{table_got, table_within}
use Rattle.ec_acts.proofs.Beginning.{first_set}
use Rattle.ec_acts.proofs.Entering.{first_values_fit}
use Rattle.ec_acts.proofs.objects.begin_first.Goals as goal
use Rattle.ec_node_frames.specs.Beginning.{HasEntry}
use Rattle.ec_generate.specs.declared.table.OperationTable.{OperationTable}
use Rattle.ec_stores.specs.Node.{store_of}

pub at-table-requires : goal.at-table-requires
at-table-requires c =
    let s = store_of c.at_mut-node.result.now in
    let t = c.requires.entry s.kind in
    table_within c.args.cluster.now.images s c.kind.result c.of-image.result.now c.kind.ensures.kind c.of-image.ensures 0 0 t.0 refl t.1

pub begin_frame-requires-clause-new : goal.begin_frame-requires-clause-new
begin_frame-requires-clause-new c =
    c.requires.new (store_of c.at_mut-node.result.now) (ap (option_map store_of) c.at_mut-node.ensures.value)

pub begin_frame-requires-clause-room : goal.begin_frame-requires-clause-room
begin_frame-requires-clause-room c =
    c.requires.room (store_of c.at_mut-node.result.now) (ap (option_map store_of) c.at_mut-node.ensures.value)

pub begin_frame-requires-clause-entry : goal.begin_frame-requires-clause-entry
begin_frame-requires-clause-entry c =
    let s = store_of c.at_mut-node.result.now in
    let t = c.requires.entry s.kind in
    let got = table_got c.args.cluster.now.images s c.kind.result c.of-image.result.now c.kind.ensures.kind c.of-image.ensures 0 0
    c.at-table.result.now refl c.at-table.ensures in
    subst (λ (u : OperationTable). HasEntry u) (same_Some t.0 c.at-table.result.now (sym t.1 ∙ got)) t.2

pub begin_frame-requires-clause-texts : goal.begin_frame-requires-clause-texts
begin_frame-requires-clause-texts c = first_values_fit (store_of c.at_mut-node.result.now) c.at-table.result.now c.args.own

pub returns : goal.returns
returns c = on_ok_two c.begin_frame.result
    (λ puts gets d p images specs w at has set none here.
    let s = store_of c.at_mut-node.result.now in
    let got = table_got c.args.cluster.now.images s c.kind.result c.of-image.result.now c.kind.ensures.kind c.of-image.ensures 0 0
    c.at-table.result.now refl c.at-table.ensures in
    first_set c.args.cluster.now c.at_mut-node.result.now c.begin_frame.new.node c.at_mut-node.ensures.value c.args.own
    c.at-table.result.now got puts gets d p images specs w at has set none here)
    c.begin_frame.ensures.puts c.begin_frame.ensures.gets
