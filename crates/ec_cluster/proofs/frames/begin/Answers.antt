-- The new activation is put at the node of its own object.
use Rattle.std.proofs.Common.{◌≡◌, ◌<◌, List, Some, ap, ◌∙◌, sym, subst, refl}
use Rattle.std.specs.Prelude.{length, option_map, slice_get}
use Rattle.std.proofs.lemmas.Option.{same_Some}
use Rattle.ec_cluster.proofs.Answered.{on_ok}
use Rattle.ec_cluster.specs.Cluster.{frame_of}
use Rattle.ec_cluster.specs.Images.{homes_on}
use Rattle.ec_cluster.proofs.Beginning.{begins_changes, node_within}
use Rattle.ec_cluster.proofs.Stacks.{frame_came, process_begun}
use Rattle.ec_cluster.proofs.Tables.{table_got, table_within}
use Rattle.ec_cluster.proofs.frames.begin.Goals as goal
use Rattle.ec_cluster.specs.Stops.{tables_for}
use Rattle.ec_code.specs.Activations.{begun}
use Rattle.ec_node_frames.specs.Beginning.{HasEntry}
use Rattle.ec_world.specs.declared.key.Key.TheVariants.{Frame}
use Rattle.ec_generate.specs.declared.table.OperationTable.{OperationTable}
use Rattle.ec_stores.specs.Node.{store_of}
use Rattle.ec_things.specs.Things.{Puts}

pub at_mut-node-requires : goal.at_mut-node-requires
at_mut-node-requires c = node_within c.args.cluster.now c.args.own c.node_of-k.result c.requires.own_is c.node_of-k.ensures

pub at-table-requires : goal.at-table-requires
at-table-requires c =
    let s = store_of c.at_mut-node.result.now in
    let t = c.requires.entry s.kind in
    table_within c.args.cluster.now.images s c.kind.result c.of-image.result.now c.kind.ensures.kind c.of-image.ensures c.args.operation
    c.args.operation t.0 refl t.1

pub begin_frame-requires-clause-new : goal.begin_frame-requires-clause-new
begin_frame-requires-clause-new c =
    c.requires.new c.node_of-k.result (store_of c.at_mut-node.result.now) (ap (option_map store_of) c.at_mut-node.ensures.value)

pub begin_frame-requires-clause-room : goal.begin_frame-requires-clause-room
begin_frame-requires-clause-room c =
    c.requires.room c.node_of-k.result (store_of c.at_mut-node.result.now) c.node_of-k.ensures
    (ap (option_map store_of) c.at_mut-node.ensures.value)

pub begin_frame-requires-clause-entry : goal.begin_frame-requires-clause-entry
begin_frame-requires-clause-entry c =
    let s = store_of c.at_mut-node.result.now in
    let t = c.requires.entry s.kind in
    let got = table_got c.args.cluster.now.images s c.kind.result c.of-image.result.now c.kind.ensures.kind c.of-image.ensures
    c.args.operation c.args.operation c.at-table.result.now refl c.at-table.ensures in
    subst (λ (u : OperationTable). HasEntry u) (same_Some t.0 c.at-table.result.now (sym t.1 ∙ got)) t.2

pub begin_frame-requires-clause-texts : goal.begin_frame-requires-clause-texts
begin_frame-requires-clause-texts c =
    let s = store_of c.at_mut-node.result.now in
    let got = table_got c.args.cluster.now.images s c.kind.result c.of-image.result.now c.kind.ensures.kind c.of-image.ensures
    c.args.operation c.args.operation c.at-table.result.now refl c.at-table.ensures in
    c.requires.texts c.node_of-k.result s c.at-table.result.now c.node_of-k.ensures (ap (option_map store_of) c.at_mut-node.ensures.value)
    got

pub returns-clause-changes : goal.returns-clause-changes
returns-clause-changes c = on_ok c.begin_frame.result
    (λ gets.
    let s = store_of c.at_mut-node.result.now in
    let got = table_got c.args.cluster.now.images s c.kind.result c.of-image.result.now c.kind.ensures.kind c.of-image.ensures
    c.args.operation c.args.operation c.at-table.result.now refl c.at-table.ensures in
    begins_changes c.args.cluster.now c.args.operation c.args.own c.args.arguments.now c.node_of-k.result c.at_mut-node.result.now
    c.begin_frame.new.node c.node_of-k.ensures c.at_mut-node.ensures.value c.at-table.result.now got gets)
    c.begin_frame.ensures.gets

pub returns-clause-stack : goal.returns-clause-stack
returns-clause-stack c = on_ok c.begin_frame.result
    (λ puts d w proc status images shows is depth.
    let cluster = c.args.cluster.now in
    let s = store_of c.at_mut-node.result.now in
    let a = begun c.args.operation c.args.own c.args.arguments.now in
    let got = table_got cluster.images s c.kind.result c.of-image.result.now c.kind.ensures.kind c.of-image.ensures
    c.args.operation c.args.operation c.at-table.result.now refl c.at-table.ensures in
    let put = puts d cluster.parts (homes_on cluster.images) (tables_for cluster.images s) (images s.kind) got in
    frame_came cluster c.node_of-k.result c.at_mut-node.result.now c.begin_frame.new.node w c.at_mut-node.ensures.value shows
    c.args.process proc is status a c.node_of-k.ensures
    (subst (λ x. Puts s (store_of c.begin_frame.new.node) (Frame c.args.process x) (Some (frame_of cluster c.args.process x a))) depth put))
    c.begin_frame.ensures.puts

pub returns-clause-process : goal.returns-clause-process
returns-clause-process c = on_ok c.begin_frame.result
    (λ puts d w status images shows process depth.
    let cluster = c.args.cluster.now in
    let s = store_of c.at_mut-node.result.now in
    let a = begun c.args.operation c.args.own c.args.arguments.now in
    let got = table_got cluster.images s c.kind.result c.of-image.result.now c.kind.ensures.kind c.of-image.ensures
    c.args.operation c.args.operation c.at-table.result.now refl c.at-table.ensures in
    let put = puts d cluster.parts (homes_on cluster.images) (tables_for cluster.images s) (images s.kind) got in
    process_begun cluster c.node_of-k.result c.at_mut-node.result.now c.begin_frame.new.node w c.at_mut-node.ensures.value shows
    _ a refl c.node_of-k.ensures
    (subst (λ x. Puts s (store_of c.begin_frame.new.node) (Frame x 0) (Some (frame_of cluster x 0 a))) process
    (subst (λ x. Puts s (store_of c.begin_frame.new.node) (Frame c.args.process x) (Some (frame_of cluster c.args.process x a))) depth
    put)))
    c.begin_frame.ensures.puts
