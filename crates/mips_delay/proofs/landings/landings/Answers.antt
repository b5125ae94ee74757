use Rattle.std.proofs.Common.{◌∙◌, arith}
use Rattle.mips_delay.proofs.Looking.{lands_no, lands_yes}
use Rattle.mips_delay.proofs.landings.landings.Goals as goal

pub loop-i-preserved : goal.loop-i-preserved
loop-i-preserved c =
    let inv = c.loop-i.invariant in (
      c.land.ensures.long ∙ inv.0,
      lands_yes c.args.words.now c.loop-i.i c.loop-i.landed.items c.land.new.landed.items
          (omega (arith, c.loop-i-test.true)) inv.1 c.land.ensures.yes,
      lands_no c.args.words.now c.loop-i.i c.loop-i.landed.items c.land.new.landed.items inv.0 inv.2 c.land.ensures.old c.land.ensures.no,
    )
