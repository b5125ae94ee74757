-- What is read of a world, where it is there.
use Rattle.std.specs.Prelude.{Bool, Option, Some, None}
use Rattle.ec_world.specs.declared.object.ObjectRec.{ObjectRec}
use Rattle.ec_world.specs.declared.process.Proc.{Proc}
use Rattle.ec_world.specs.declared.process.ProcStatus.{ProcStatus}

abbrev pub status_if : {A : Type 0} → Option (Proc A) → Option ProcStatus
status_if None = None
status_if (Some proc) = Some proc.status

abbrev pub fixed_if : Option ObjectRec → Option Bool
fixed_if None = None
fixed_if (Some o) = Some o.fixed
