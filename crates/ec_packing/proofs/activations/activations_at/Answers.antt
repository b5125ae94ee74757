-- What goes of one activation more.
use Rattle.std.proofs.Common.{◌∷◌, [], sym, ◌∙◌, subst, arith}
use Rattle.std.proofs.lemmas.Option.{same_Some}
use Rattle.ec_packing.proofs.Joining.{all_joined, item_has, more_joined}
use Rattle.ec_packing.proofs.Standing.{goes_at, those_go}
use Rattle.ec_packing.proofs.activations.activations_at.Goals as goal
use Rattle.ec_packing.specs.Standing.{IsOnMember}
use Rattle.ec_stores.specs.Node.{NodeData, store_of}

pub part_at-requires-clause-there : goal.part_at-requires-clause-there
part_at-requires-clause-there c n is =
    let same = same_Some c.at-node.result.now n (sym c.at-node.ensures ∙ is) in
    subst (λ (m : NodeData). IsOnMember (store_of m) c.args.members.now c.index.result.now) same
    (c.in_ok-found.ensures.each c.index.result.now (record { at = c.loop-i.i; is = item_has c.in_ok-found.found.items c.loop-i.i c.index.result.now c.index.ensures (omega arith) }))

pub loop-i-preserved : goal.loop-i-preserved
loop-i-preserved c d w table can =
    let s = c.args.system.now in
    more_joined (goes_at d s w table c.args.members.now c.args.from can) c.in_ok-found.found.items c.loop-i.i c.index.result.now
    c.loop-i.parts c.push.new.self (c.in_ok-part.part ∷ [])
    (item_has c.in_ok-found.found.items c.loop-i.i c.index.result.now c.index.ensures (omega arith)) (c.loop-i.invariant d w table can)
    (c.in_ok-part.ensures d w table can) c.in_ok-push.ensures.ok

pub returns : goal.returns
returns c d w table can =
    let s = c.args.system.now in
    let keys = c.in_ok-found.found.items in
    c.loop-i.invariant d w table can
    ∙ all_joined (goes_at d s w table c.args.members.now c.args.from can) keys c.loop-i.i (omega arith)
    ∙ those_go d s w table c.args.members.now c.args.from can c.at-node.result.now c.at-node.ensures keys c.in_ok-found.ensures
