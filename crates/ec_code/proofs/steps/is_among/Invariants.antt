use Rattle.std.proofs.Common.{◌≡◌, drop}
use Rattle.ec_code.specs.Marks.{is_among}
use Rattle.ec_code.proofs.steps.is_among.Given as goal

abbrev pub invariant-loop-y : goal.invariant-loop-y
invariant-loop-y l = is_among l.x (drop l.y-index l.variables) ≡ is_among l.x l.variables
