-- The activations on one member more are found.
use Rattle.std.proofs.Common.{◌+◌, List, ℕ, take, get_or, ◌∙◌, subst, arith}
use Rattle.std.proofs.lemmas.Iterator.{items_from_collect}
use Rattle.std.proofs.lemmas.Iterator.Consumers.{YieldsList-from_copied, YieldsList-from_rest}
use Rattle.ec_base.proofs.Lists.{take_next}
use Rattle.ec_packing.proofs.Joining.{read_has, take_all}
use Rattle.ec_packing.proofs.Standing.{AreFound, all_found, items_if, more_found}
use Rattle.ec_packing.proofs.activations.on_members.Goals as goal
use Rattle.ec_stores.specs.Node.{store_of}

pub loop-i-preserved : goal.loop-i-preserved
loop-i-preserved c =
    let ms = c.args.members.now in
    more_found (store_of c.args.node.now) (take c.loop-i.i ms) (get_or ms c.loop-i.i 0) (take (c.loop-i.i + 1) ms) c.loop-i.found
    c.add_on.new.found
    (take_next ms c.loop-i.i (get_or ms c.loop-i.i 0) (read_has ms c.loop-i.i (omega arith))) c.loop-i.invariant c.in_ok-add_on.ensures

pub returns : goal.returns
returns c =
    let s = store_of c.args.node.now in
    let ms = c.args.members.now in
    let are = subst (λ (l : List ℕ). AreFound s l c.loop-i.found) (take_all ms c.loop-i.i (omega arith)) c.loop-i.invariant in
    items_if s ms c.loop-i.found c.collect.result (all_found s ms c.loop-i.found are c.iter.ensures.ordered)
    (items_from_collect c.collect.result c.collect.ensures.ran
    (YieldsList-from_copied (YieldsList-from_rest c.loop-i.found.keys (c.copied.ensures.source ∙ c.iter.ensures.rest))))
