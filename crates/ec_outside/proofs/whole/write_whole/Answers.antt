use Rattle.std.proofs.Common.{◌∙◌, arith}
use Rattle.std.proofs.lemmas.Grind.{common_steps}
use Rattle.ec_outside.proofs.Fronts.{taken_more}
use Rattle.ec_outside.proofs.whole.write_whole.Goals as goal

pub loop-at-preserved : goal.loop-at-preserved
loop-at-preserved g c = record {
  within = grind (arith, common_steps);
  taken = λ tells. taken_more _ _ _ _ _ _ (c.loop-at.invariant.taken tells) (c.in_ok-at.ensures.takes (c.loop-at.invariant.tells tells));
  tells = λ tells. c.put.ensures.still_tells (c.loop-at.invariant.tells tells);
  faults = c.in_ok-at.ensures.ok ∙ c.loop-at.invariant.faults;
}
