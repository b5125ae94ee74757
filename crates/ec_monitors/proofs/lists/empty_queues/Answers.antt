use Rattle.ec_monitors.proofs.Queues.{empty-items, empty-none, empty-room}
use Rattle.ec_monitors.proofs.lists.empty_queues.Goals as goal

pub loop-preserved : goal.loop-preserved
loop-preserved c =
    let e = c.in_ok-push.ensures.items in
    let i = c.loop.invariant in
    record {
      items = empty-items c.loop.made.items c.push.new.self.items c.new.result e c.new.ensures.items c.loop.counter i.items;
      none = empty-none c.loop.made.items c.push.new.self.items c.new.result e c.new.ensures.items i.none;
      room = empty-room c.loop.made.items c.push.new.self.items c.new.result e i.room;
    }
