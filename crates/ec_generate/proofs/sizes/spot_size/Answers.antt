use Rattle.std.proofs.Common.{◌+◌, ◌∙◌, ap, arith, drop, length, sym}
use Rattle.ec_generate.specs.Puts.{pick}
use Rattle.ec_generate.specs.Sites.{home_there, ops_there}
use Rattle.ec_generate.proofs.Orders.{in_order}
use Rattle.ec_machine_code.proofs.Direct.{laid_there as op_there, ops_long}
use Rattle.ec_machine_code.specs.Direct.{laid_op}
use Rattle.ec_machine_code.specs.Layout.{first_of, op_size, size_if}
use Rattle.ec_generate.proofs.sizes.spot_size.Goals as goal

pub at-requires : goal.at-requires
at-requires g c = c.requires.ordered.within c.args.q (in_order c.args.site.now.order.now c.args.spot c.args.q c.requires.there)

pub op_size-requires-clause-there : goal.op_size-requires-clause-there
op_size-requires-clause-there g c =
    c.requires.ordered.within c.args.q (in_order c.args.site.now.order.now c.args.spot c.args.q c.requires.there)

pub op_size-requires-clause-few : goal.op_size-requires-clause-few
op_size-requires-clause-few g c = omega (arith, ops_long c.args.site.now.code.now, c.requires.few)

pub returns-clause-is : goal.returns-clause-is
returns-clause-is g c =
    let V = pick g.K.Kind.vocabularies c.args.span in
    let home = home_there c.args.site.now in
    let code = c.args.site.now.code.now in
    let ops = ops_there c.args.site.now in
    let q = c.args.q in
    let rest = drop (c.args.spot + 1) c.args.site.now.order.now in
    let o = laid_op code q c.at.result.now.op in
    let there = op_there code q c.at.result.now c.at.ensures in
    c.op_size.ensures.is
    ∙ ap (λ n. op_size V home n q o) (c.next_at-next.ensures ∙ ap (λ n. first_of n rest) (sym (ops_long code)))
    ∙ sym (ap (size_if V home ops (first_of (length ops) rest) q) there)
