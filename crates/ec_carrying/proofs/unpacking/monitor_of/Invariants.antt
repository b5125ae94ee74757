use Rattle.std.proofs.Common.{◌≡◌, drop}
use Rattle.ec_carrying.specs.Landing.{monitor_in}
use Rattle.ec_carrying.proofs.unpacking.monitor_of.Given as goal

-- the parts from place i on decide
abbrev pub invariant-loop-part : goal.invariant-loop-part
invariant-loop-part l = monitor_in (drop l.part-index l.monitors) l.oid ≡ monitor_in l.monitors l.oid
