-- One more of those on the object is found.
use Rattle.std.proofs.Common.{◌+◌, List, ℕ, take, subst, arith}
use Rattle.ec_base.proofs.Lists.{take_next}
use Rattle.ec_packing.proofs.Joining.{item_has, take_all}
use Rattle.ec_packing.proofs.Standing.{AreFirst, more_first, some_found}
use Rattle.ec_packing.proofs.activations.add_on.Goals as goal
use Rattle.ec_stores.specs.Node.{store_of}

pub loop-i-preserved : goal.loop-i-preserved
loop-i-preserved c =
    let items = c.in_ok-standing.standing.items in
    let x = c.index.result.now in
    more_first (take c.loop-i.i items) (take (c.loop-i.i + 1) items) x c.args.found.now c.loop-i.found c.insert.new.self
    (take_next items c.loop-i.i x (item_has items c.loop-i.i x c.index.ensures (omega arith))) c.loop-i.invariant c.in_ok-insert.ensures.updates

pub returns : goal.returns
returns c =
    let items = c.in_ok-standing.standing.items in
    some_found (store_of c.args.node.now) c.args.oid items c.args.found.now c.loop-i.found c.in_ok-standing.ensures
    (subst (λ (l : List (ℕ × ℕ)). AreFirst l c.args.found.now c.loop-i.found) (take_all items c.loop-i.i (omega arith))
    c.loop-i.invariant)
