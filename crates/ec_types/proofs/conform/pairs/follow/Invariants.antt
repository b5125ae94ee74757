use Rattle.std.proofs.Common.{◌<◌, ◌≤◌, ◌+◌, ◌-◌, length}
use Rattle.ec_types.specs.Pairs.{Follows, count_true}
use Rattle.ec_types.proofs.conform.pairs.follow.Given as goal

abbrev pub invariant-loop-next : goal.invariant-loop-next
invariant-loop-next l =
    Follows l.types l.initial.pairs.items l.initial.struck.items l.pairs.items l.struck.items
    × (0 < length l.struck.items) × (l.next ≤ length l.struck.items)

abbrev pub decreases-loop-next : goal.decreases-loop-next
decreases-loop-next l = count_true l.pairs.items + length l.struck.items - l.next
