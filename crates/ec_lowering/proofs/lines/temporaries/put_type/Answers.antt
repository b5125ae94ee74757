use Rattle.std.proofs.Common.{◌∙◌, ◌<◌, length, arith, sym}
use Rattle.std.proofs.lemmas.Grind.{common_steps}
use Rattle.ec_lowering.proofs.Put.{put_end, put_in}
use Rattle.ec_lowering.proofs.lines.temporaries.put_type.Goals as goal

pub returns-then-len-at : goal.returns-then-len-at
returns-then-len-at c =
    let e = sym (put_end c.pad.new.types c.args.of c.args.at (omega (arith, c.len.ensures, c.if-len-at.true)))
    ∙ c.in_ok-pad.ensures.same c.args.of in
    grind (arith, common_steps, e)

pub returns : goal.returns
returns c =
    let lt : c.args.at < length c.pad.new.types =
    omega (arith, c.in_ok-pad.ensures.long, c.len.ensures, c.if-len-at.false) in
    c.set.ensures ∙ sym (put_in c.pad.new.types c.args.at c.args.of lt) ∙ c.in_ok-pad.ensures.same c.args.of
