use Rattle.std.proofs.Common.{◌∙◌, ap}
use lib.Dec.{eqb}
use lib.Pointwise.{pointwise}
use Rattle.ec_world.proofs.SameTexts.{same_text}
use Rattle.ec_world.proofs.same.is_same_text.Goals as goal

pub returns : goal.returns
returns c =
    c.eq.ensures
    ∙ ap (λ s. pointwise eqb s c.as_slice-2.result.now) c.as_slice.ensures
    ∙ ap (pointwise eqb c.args.a.now) c.as_slice-2.ensures
    ∙ same_text c.args.a.now c.args.b.now
