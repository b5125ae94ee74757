use Rattle.std.proofs.Common.{◌≡◌, ◌+◌, drop}
use Rattle.ec_monitors.specs.Room.{waiting_count}
use Rattle.ec_monitors.proofs.lists.all_and_two.Given as goal

abbrev pub invariant-loop-q : goal.invariant-loop-q
invariant-loop-q l = l.n + waiting_count (drop l.q-index l.conditions.items) ≡ waiting_count l.conditions.items + 2
