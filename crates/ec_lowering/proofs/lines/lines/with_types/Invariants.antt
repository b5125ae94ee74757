use Rattle.std.proofs.Common.{◌≡◌, take}
use Rattle.ec_lowering.specs.Sites.{around_by}
use Rattle.ec_emission.specs.Types.{with_types}
use Rattle.ec_lowering.proofs.lines.lines.with_types.Given as goal

abbrev pub invariant-loop-x : goal.invariant-loop-x
invariant-loop-x l = l.live ≡ with_types (around_by l.site) l.temporaries (take l.x-index l.list)
