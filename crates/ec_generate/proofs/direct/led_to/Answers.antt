use Rattle.std.proofs.Common.{◌+◌, drop, ap, ◌∙◌}
use Rattle.ec_generate.proofs.Led.{marked_next}
use Rattle.ec_machine_code.specs.Direct.{marked}
use Rattle.ec_generate.proofs.direct.led_to.Goals as goal

pub loop-place-preserved : goal.loop-place-preserved
loop-place-preserved c =
    let code = c.args.code.now in
    let q = c.loop-place.place in
    ap (marked code (q + 1) (drop (q + 1) code)) c.mark_one.ensures
    ∙ marked_next code q c.at.result.now c.loop-place.marks.items c.at.ensures ∙ c.loop-place.invariant
