use Rattle.std.proofs.Common.{◌≡◌, drop, map}
use Rattle.ec_code.specs.Marks.{is_among}
use Rattle.ec_machine_code.proofs.meeting.is_live.Given as goal

-- none before this one is it
abbrev pub invariant-loop-one : goal.invariant-loop-one
invariant-loop-one l = is_among l.x (map (λ o. o.variable) (drop l.one-index l.live)) ≡ is_among l.x (map (λ o. o.variable) l.live)
