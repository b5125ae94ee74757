use Rattle.std.proofs.Common.{length, ap, arith}
use Rattle.ec_base.proofs.Lists.{get_within}
use Rattle.ec_generate.specs.Puts.{pick}
use Rattle.ec_generate.specs.Sites.{home_there, ops_there}
use Rattle.ec_generate.proofs.Loops.{none_left, size_next}
use Rattle.ec_generate.proofs.Orders.{as_many}
use Rattle.ec_machine_code.proofs.Direct.{ops_long}
use Rattle.ec_machine_code.specs.Layout.{size_of}
use Rattle.ec_generate.proofs.sizes.size_of.Goals as goal

pub overflow_add-size : goal.overflow_add-size
overflow_add-size g c =
    let few = as_many (length c.args.site.now.code.now) c.args.site.now.order.now c.requires.ordered in
    let lt = get_within c.args.site.now.order.now c.loop-spot.spot c.at.result.now c.at.ensures in
    omega (arith, few, lt, ops_long c.args.site.now.code.now, c.requires.few, c.loop-spot.invariant.few, c.spot_size-size.ensures.few)

pub loop-spot-preserved : goal.loop-spot-preserved
loop-spot-preserved g c =
    let V = pick g.K.Kind.vocabularies c.args.span in
    let home = home_there c.args.site.now in
    let ops = ops_there c.args.site.now in
    let order = c.args.site.now.order.now in
    record {
      size = omega (
        arith,
        size_next V home ops order 0 c.loop-spot.spot c.at.result.now c.at.ensures,
        c.loop-spot.invariant.size,
        c.spot_size-size.ensures.is,
      );
      few = omega (arith, c.loop-spot.invariant.few, c.spot_size-size.ensures.few);
    }

pub returns : goal.returns
returns g c =
    let V = pick g.K.Kind.vocabularies c.args.span in
    let home = home_there c.args.site.now in
    let ops = ops_there c.args.site.now in
    let order = c.args.site.now.order.now in
    let none = ap (size_of V home ops) (none_left V home ops order 0 c.loop-spot.spot (omega arith)) in
    record { is = omega (arith, none, c.loop-spot.invariant.size) }
