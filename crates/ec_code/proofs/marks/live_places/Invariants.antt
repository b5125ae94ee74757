use Rattle.std.proofs.Common.{◌≡◌, length}
use Rattle.ec_code.specs.Marks.{unmarked, OnlyLive}
use Rattle.ec_code.proofs.marks.live_places.Given as goal

abbrev pub invariant-sweeping : goal.invariant-sweeping
invariant-sweeping l = (length l.marks.items ≡ length l.code) × OnlyLive l.code l.x l.marks.items

abbrev pub decreases-sweeping : goal.decreases-sweeping
decreases-sweeping l = unmarked l.marks.items
