use Rattle.std.proofs.Common.{refl}
use Rattle.ec_types.proofs.Striking.{follows_one}
use Rattle.ec_types.proofs.conform.pairs.check.Goals as goal

pub returns-in_ok-push : goal.returns-in_ok-push
returns-in_ok-push c =
    rw c.in_ok-push.ensures.items
    (follows_one _ _ _ _ c.requires.full (rw c.as_slice.ensures.value at (c.if-is_wrong.ensures.wrong refl)))
