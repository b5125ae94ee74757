-- The stop and the operands are those of the activation that acts, whatever world is shown.
use Rattle.std.proofs.Common.{sym, ◌∙◌, subst}
use Rattle.ec_asking.proofs.Tops.{acts_here, entry_here, has_place, here, is_pending, its_stop, node_within, operands_are, some_here}
use Rattle.ec_asking.proofs.Tops.{some_there, there}
use Rattle.ec_asking.proofs.stops.stop_of.Goals as goal
use Rattle.ec_asking.specs.Asking.{HasStop}
use Rattle.ec_cluster.specs.Images.{homes_on}
use Rattle.ec_cluster.specs.Stops.{tables_for}
use Rattle.ec_generate.specs.declared.table.StopEntry.{StopEntry}
use Rattle.ec_stores.specs.Node.{store_of}

pub node_of-k-requires : goal.node_of-k-requires
node_of-k-requires c =
    let r = c.requires.acts in has_place r.declared c.args.system.now r.world r.below r.top c.args.who r.acts

pub at-node-requires : goal.at-node-requires
at-node-requires c =
    let r = c.requires.acts in
    node_within r.declared c.args.system.now r.world r.below r.top c.args.who r.acts c.node_of-k.result c.node_of-k.ensures

pub table_of-table-requires : goal.table_of-table-requires
table_of-table-requires c =
    let r = c.requires.acts in
    some_there r.declared c.args.system.now r.world r.below r.top c.args.who r.acts c.node_of-k.result c.node_of-k.ensures
    c.at-node.result.now c.at-node.ensures

pub entry_of-entry-requires : goal.entry_of-entry-requires
entry_of-entry-requires c =
    let r = c.requires.acts in
    let s = c.args.system.now in
    let at = there r.declared s r.world r.below r.top c.args.who r.acts c.node_of-k.result c.node_of-k.ensures c.at-node.result.now
    c.at-node.ensures in
    let entry = entry_here r.declared s r.world r.below r.top c.args.who r.acts in
    some_here r.declared s r.world r.below r.top c.args.who r.acts c.node_of-k.result c.node_of-k.ensures c.at-node.result.now
    c.at-node.ensures c.table_of-table.result.now (c.table_of-table.ensures r.declared s.cluster.parts r.top entry at)

pub operands_of-requires : goal.operands_of-requires
operands_of-requires c =
    let r = c.requires.acts in
    let s = c.args.system.now in
    let n = c.at-node.result.now in
    let at = there r.declared s r.world r.below r.top c.args.who r.acts c.node_of-k.result c.node_of-k.ensures n c.at-node.ensures in
    let entry = entry_here r.declared s r.world r.below r.top c.args.who r.acts in
    let its = c.table_of-table.ensures r.declared s.cluster.parts r.top entry at in
    let rests = here r.declared s r.world r.below r.top c.args.who r.acts c.node_of-k.result c.node_of-k.ensures n c.at-node.ensures
    c.table_of-table.result.now its in
    let same = c.entry_of-entry.ensures r.declared s.cluster.parts (homes_on s.cluster.images) (tables_for s.cluster.images (store_of n))
    r.top entry rests in
    record {
      declared = r.declared;
      parts = s.cluster.parts;
      homes = homes_on s.cluster.images;
      tables = tables_for s.cluster.images (store_of n);
      activation = r.top;
      acts =
          acts_here r.declared s r.world r.below r.top c.args.who r.acts c.node_of-k.result c.node_of-k.ensures n c.at-node.ensures
          c.table_of-table.result.now its c.requires.typed c.entry_of-entry.result.now same;
    }

pub row_at-row-requires : goal.row_at-row-requires
row_at-row-requires c =
    let r = c.requires.acts in
    let s = c.args.system.now in
    let n = c.at-node.result.now in
    let at = there r.declared s r.world r.below r.top c.args.who r.acts c.node_of-k.result c.node_of-k.ensures n c.at-node.ensures in
    let entry = entry_here r.declared s r.world r.below r.top c.args.who r.acts in
    let its = c.table_of-table.ensures r.declared s.cluster.parts r.top entry at in
    let rests = here r.declared s r.world r.below r.top c.args.who r.acts c.node_of-k.result c.node_of-k.ensures n c.at-node.ensures
    c.table_of-table.result.now its in
    let same = c.entry_of-entry.ensures r.declared s.cluster.parts (homes_on s.cluster.images) (tables_for s.cluster.images (store_of n))
    r.top entry rests in
    let row = (is_pending r.declared s r.world r.below r.top c.args.who r.acts).rests.row in (
      row,
      subst (λ (x : StopEntry). HasStop s.cluster.parts c.args.who.operation x.place row) (sym same)
          (its_stop r.declared s r.world r.below r.top c.args.who r.acts),
    )

pub returns : goal.returns
returns c = λ d w below top acts.
    let s = c.args.system.now in
    let n = c.at-node.result.now in
    let at = there d s w below top c.args.who acts c.node_of-k.result c.node_of-k.ensures n c.at-node.ensures in
    let entry = entry_here d s w below top c.args.who acts in
    let its = c.table_of-table.ensures d s.cluster.parts top entry at in
    let rests = here d s w below top c.args.who acts c.node_of-k.result c.node_of-k.ensures n c.at-node.ensures c.table_of-table.result.now
    its in
    let same = c.entry_of-entry.ensures d s.cluster.parts (homes_on s.cluster.images) (tables_for s.cluster.images (store_of n)) top entry
    rests in
    let acting = acts_here d s w below top c.args.who acts c.node_of-k.result c.node_of-k.ensures n c.at-node.ensures
    c.table_of-table.result.now its c.requires.typed c.entry_of-entry.result.now same in
    let read = c.in_ok-values.ensures d s.cluster.parts (homes_on s.cluster.images) (tables_for s.cluster.images (store_of n)) top acting in
    let are = operands_are d s w below top c.args.who acts c.entry_of-entry.result.now c.row_at-row.result.now c.in_ok-values.values same
    c.row_at-row.ensures read in
    (are.0, c.with_itself-operands.ensures ∙ are.1)
