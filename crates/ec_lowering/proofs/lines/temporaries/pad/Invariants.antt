use Rattle.std.proofs.Common.{◌≡◌, ◌-◌, length}
use Rattle.ec_types.specs.declared.conform.static_type.StaticType.{StaticType}
use Rattle.ec_emission.specs.Types.{put_type}
use Rattle.ec_lowering.proofs.lines.temporaries.pad.Given as goal

abbrev pub invariant-loop-types : goal.invariant-loop-types
invariant-loop-types l = (t : StaticType) → put_type l.types l.at t ≡ put_type l.fn.types l.at t

abbrev pub decreases-loop-types : goal.decreases-loop-types
decreases-loop-types l = l.at - length l.types
