use Rattle.std.proofs.Common.{◌≡◌, drop, map}
use Rattle.ec_machine_code.specs.Rows.{marked_with}
use Rattle.ec_machine_code.proofs.meeting.mark_all.Given as goal

-- those from this one on are still to be marked
abbrev pub invariant-loop-one : goal.invariant-loop-one
invariant-loop-one l =
    marked_with l.named l.marks.items (map (λ o. o.variable) (drop l.one-index l.live))
    ≡ marked_with l.named l.initial.marks.items (map (λ o. o.variable) l.live)
