use Rattle.std.proofs.Common.{◌≡◌, ℕ, take, length}
use Rattle.ec_monitors.specs.Room.{waiting_count, queues, EachHasRoom}
use Rattle.ec_monitors.proofs.lists.queues_room.Given as goal

abbrev pub invariant-loop-i : goal.invariant-loop-i
invariant-loop-i l = record {
  long : length l.queues.items ≡ length l.fn.queues.items;
  items : queues l.queues.items ≡ queues l.fn.queues.items;
  count : waiting_count l.queues.items ≡ waiting_count l.fn.queues.items;
  more : (n : ℕ) → EachHasRoom n l.fn.queues.items → EachHasRoom n l.queues.items;
  room : EachHasRoom l.room (take l.i l.queues.items);
}
