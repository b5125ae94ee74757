use Rattle.std.proofs.Common.{refl, sym, ap}
use Rattle.std.specs.Prelude.{is_some}
use Rattle.ec_stores.specs.Inside.{data_of}
use Rattle.ec_stores.specs.declared.rows.ObjectRow.{ObjectRow}
use Rattle.ec_stores.proofs.Changing.{laid_changed}
use Rattle.ec_stores.proofs.node.NodeStore.set_fixed.Goals as goal

pub invariant_of-self : goal.invariant_of-self
invariant_of-self c =
    let row : ObjectRow = c.in-Some.row.now in
    let now : ObjectRow = record row { fixed = c.args.fixed } in
    laid_changed (data_of c.self.inside) c.self.inside.objects (c.get_mut.follows.lender now) c.args.oid row now c.self.invariant refl
    c.in-Some.ensures.value ((c.get_mut.follows.holds now).3 (ap is_some (sym c.in-Some.ensures.value))) refl refl refl
