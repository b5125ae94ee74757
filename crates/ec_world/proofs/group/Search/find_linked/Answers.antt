use Rattle.std.proofs.Common.{arith, ◌∙◌, sym, ◌≤◌, min, length}
use Rattle.ec_world.proofs.Searching.{links_next, links_over}
use Rattle.ec_world.proofs.group.Search.find_linked.Goals as goal

pub loop-i-preserved : goal.loop-i-preserved
loop-i-preserved c =
    links_next c.loop-i.self c.find_in.new.self c.args.fields.now c.args.values.now c.loop-i.i c.at.result.now
    c.at-in-loop-i.result.now c.at.ensures c.at-in-loop-i.ensures c.in_ok-find_in.ensures
    ∙ c.loop-i.invariant

pub returns : goal.returns
returns c =
    let over : min (length c.args.fields.now) (length c.args.values.now) ≤ c.loop-i.i = omega arith in
    sym (links_over c.loop-i.self c.args.fields.now c.args.values.now c.loop-i.i over) ∙ c.loop-i.invariant
