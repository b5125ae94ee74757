use Rattle.std.proofs.Common.{◌∙◌, ◌<◌, length, arith, ap}
use Rattle.ec_emission.specs.Types.{put_type}
use Rattle.ec_lowering.proofs.Put.{put_more}
use Rattle.ec_lowering.proofs.lines.temporaries.pad.Goals as goal

pub loop-types-preserved : goal.loop-types-preserved
loop-types-preserved c = λ t.
    let lt : length c.loop-types.types < c.args.at = omega arith in
    ap (λ ts. put_type ts c.args.at t) c.in_ok-push.ensures.ok ∙ put_more c.loop-types.types c.args.at t lt
    ∙ c.loop-types.invariant t
