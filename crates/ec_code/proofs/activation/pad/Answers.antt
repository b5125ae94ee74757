use Rattle.std.proofs.Common.{◌∙◌, ◌<◌, length, arith, ap}
use Rattle.ec_code.specs.Steps.{put}
use Rattle.ec_code.proofs.Put.{put_more}
use Rattle.ec_code.proofs.activation.pad.Goals as goal

pub loop-temporaries-preserved : goal.loop-temporaries-preserved
loop-temporaries-preserved c = λ v.
    let lt : length c.loop-temporaries.temporaries < c.args.at = omega arith in
    ap (λ vs. put vs c.args.at v) c.in_ok-push.ensures.ok ∙ put_more c.loop-temporaries.temporaries c.args.at v lt
    ∙ c.loop-temporaries.invariant v
