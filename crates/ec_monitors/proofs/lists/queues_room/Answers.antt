use Rattle.std.proofs.Common.{arith, ◌∙◌}
use Rattle.ec_base.proofs.Lists.{length_set}
use Rattle.ec_monitors.proofs.Queues.{got, room_set, same_queues, same_count, room_take}
use Rattle.ec_monitors.proofs.lists.queues_room.Goals as goal

pub returns-in_err-room_in-clause-items : goal.returns-in_err-room_in-clause-items
returns-in_err-room_in-clause-items c =
    let at = got c.loop-i.queues.items c.loop-i.i c.index_mut.result.now (omega arith) c.index_mut.ensures.value in
    same_queues c.loop-i.queues.items c.loop-i.i c.index_mut.result.now c.room_in.new.items at c.room_in.ensures.items
    ∙ c.loop-i.invariant.items

pub returns-in_err-room_in-clause-count : goal.returns-in_err-room_in-clause-count
returns-in_err-room_in-clause-count c =
    let at = got c.loop-i.queues.items c.loop-i.i c.index_mut.result.now (omega arith) c.index_mut.ensures.value in
    same_count c.loop-i.queues.items c.loop-i.i c.index_mut.result.now c.room_in.new.items at c.room_in.ensures.items
    ∙ c.loop-i.invariant.count

pub returns-in_err-room_in-clause-more : goal.returns-in_err-room_in-clause-more
returns-in_err-room_in-clause-more c =
    let at = got c.loop-i.queues.items c.loop-i.i c.index_mut.result.now (omega arith) c.index_mut.ensures.value in
    λ n h. room_set n c.loop-i.queues.items c.loop-i.i c.index_mut.result.now c.room_in.new.items at c.room_in.ensures.more
    (c.loop-i.invariant.more n h)

pub loop-i-preserved : goal.loop-i-preserved
loop-i-preserved c =
    let at = got c.loop-i.queues.items c.loop-i.i c.index_mut.result.now (omega arith) c.index_mut.ensures.value in
    record {
      long = length_set c.loop-i.queues.items c.loop-i.i c.room_in.new.items ∙ c.loop-i.invariant.long;
      items = same_queues c.loop-i.queues.items c.loop-i.i c.index_mut.result.now c.room_in.new.items at c.room_in.ensures.items
          ∙ c.loop-i.invariant.items;
      count = same_count c.loop-i.queues.items c.loop-i.i c.index_mut.result.now c.room_in.new.items at c.room_in.ensures.items
          ∙ c.loop-i.invariant.count;
      more = λ n h. room_set n c.loop-i.queues.items c.loop-i.i c.index_mut.result.now c.room_in.new.items at c.room_in.ensures.more
          (c.loop-i.invariant.more n h);
      room = room_take c.args.room c.loop-i.queues.items c.loop-i.i c.room_in.new.items c.in_ok-room_in.ensures.ok c.loop-i.invariant.room;
    }
