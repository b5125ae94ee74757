use Rattle.std.proofs.Common.{◌≡◌, []}
use Rattle.std.specs.Prelude.{replicate}
use Rattle.ec_monitors.specs.Room.{waiting_count, queues, EachHasRoom}
use Rattle.ec_monitors.proofs.lists.empty_queues.Given as goal

abbrev pub invariant-loop : goal.invariant-loop
invariant-loop l = record {
  items : queues l.made.items ≡ replicate l.counter [];
  none : waiting_count l.made.items ≡ 0;
  room : EachHasRoom 0 l.made.items;
}
