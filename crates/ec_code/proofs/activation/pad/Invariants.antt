use Rattle.std.proofs.Common.{◌≡◌, ◌-◌, length}
use Rattle.ec_world.specs.declared.value.Value.{Value}
use Rattle.ec_code.specs.Steps.{put}
use Rattle.ec_code.proofs.activation.pad.Given as goal

abbrev pub invariant-loop-temporaries : goal.invariant-loop-temporaries
invariant-loop-temporaries l = (v : Value) → put l.temporaries l.at v ≡ put l.fn.temporaries l.at v

abbrev pub decreases-loop-temporaries : goal.decreases-loop-temporaries
decreases-loop-temporaries l = l.at - length l.temporaries
