-- The status with which a command ends: its number, and that of a run by its end.
use Rattle.std.specs.Prelude.{ℕ, ◌||◌, Bool, true, false, List, [], ◌∷◌}
use Rattle.ec_world.specs.declared.process.ProcStatus.{ProcStatus}
use Rattle.ec_world.specs.declared.process.ProcStatus.TheVariants.{Ready, Entry, Cond, Urgent, Ended, Failed}
use Rattle.ec_world.specs.declared.run.RunEnd.TheVariants as ends
use Rattle.ec_report.specs.declared.end.ReportEnd.{ReportEnd}
use Rattle.ec_report.specs.declared.end.ReportEnd.TheVariants.{Ends, IsFull}
use Rattle.ec_report.specs.declared.status.Status.{Status}
use Rattle.ec_report.specs.declared.status.Status.TheVariants.{Finished, SomeFailed, Usage, SourceRefused, InputRefused, Spent}
use Rattle.ec_report.specs.declared.status.Status.TheVariants.{Full, Stuck, ReadFault, WriteFault, NoMemory}

-- ---- the number

abbrev pub code_of : Status → ℕ
code_of Finished = 0
code_of SomeFailed = 1
code_of Usage = 2
code_of SourceRefused = 3
code_of InputRefused = 4
code_of Spent = 5
code_of Full = 6
code_of Stuck = 7
code_of ReadFault = 8
code_of WriteFault = 9
code_of NoMemory = 10

-- ---- the status of an end

abbrev pub has_failed : ProcStatus → Bool
has_failed Ready = false
has_failed (Entry o) = false
has_failed (Cond o) = false
has_failed (Urgent o) = false
has_failed Ended = false
has_failed (Failed cause line) = true

abbrev pub any_failed : List ProcStatus → Bool
any_failed [] = false
any_failed (s ∷ ss) = has_failed s || any_failed ss

abbrev pub finished_status : Bool → Status
finished_status true = SomeFailed
finished_status false = Finished

abbrev pub status_of : List ProcStatus → ReportEnd → Status
status_of ss (Ends ends.Finished) = finished_status (any_failed ss)
status_of ss (Ends ends.Stuck) = Stuck
status_of ss (Ends ends.Spent) = Spent
status_of ss (IsFull node part need free) = Full
