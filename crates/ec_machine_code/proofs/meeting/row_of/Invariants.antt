use Rattle.std.proofs.Common.{◌≡◌, drop}
use Rattle.ec_machine_code.specs.Meeting.{met_by}
use Rattle.ec_machine_code.specs.Rows.{marked_with, row_of}
use Rattle.ec_machine_code.proofs.meeting.row_of.Given as goal

-- the lines from this one on are still to be looked at
abbrev pub invariant-loop-q : goal.invariant-loop-q
invariant-loop-q l = marked_with l.named l.marks.items (met_by l.x (drop l.q l.code)) ≡ row_of l.named l.count l.code l.x
