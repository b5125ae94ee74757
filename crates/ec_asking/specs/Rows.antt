-- The activation on top, by the row of its process.
use Rattle.std.specs.Prelude.{ℕ, zero, suc, Option, Some, None}
use Rattle.ec_world.specs.declared.process.ProcStatus.{ProcStatus}
use Rattle.ec_world.specs.declared.process.ProcStatus.TheVariants.{Ready, Entry, Cond, Urgent, Ended, Failed}

-- of so many activations
abbrev pub depth_of : ℕ → Option ℕ
depth_of zero = None
depth_of (suc n) = Some n

-- its depth, where the process may go on and has one
abbrev pub depth_if : ProcStatus → ℕ → Option ℕ
depth_if Ready count = depth_of count
depth_if (Entry oid) count = None
depth_if (Cond oid) count = None
depth_if (Urgent oid) count = None
depth_if Ended count = None
depth_if (Failed why line) count = None
