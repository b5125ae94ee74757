use Rattle.std.proofs.Common.{arith}
use Rattle.ec_monitors.proofs.Queues.{got, count_at_least, room_at, room_set, pushed, pushed_count}
use Rattle.ec_monitors.proofs.lists.push_at.Goals as goal

pub push_within-requires : goal.push_within-requires
push_within-requires c =
    let at = got c.args.queues.now.items c.args.c c.index_mut.result.now c.requires.there c.index_mut.ensures.value in
    let some = count_at_least c.args.queues.now.items c.args.c c.index_mut.result.now at in
    let room = room_at c.requires.room.0 c.args.queues.now.items c.args.c c.index_mut.result.now at c.requires.room.2 in
    omega (arith, some, room, c.requires.room.1)

pub returns-clause-items : goal.returns-clause-items
returns-clause-items c =
    let at = got c.args.queues.now.items c.args.c c.index_mut.result.now c.requires.there c.index_mut.ensures.value in
    pushed c.args.queues.now.items c.args.c c.index_mut.result.now c.push_within.new.items at c.args.held c.push_within.ensures.items

pub returns-clause-count : goal.returns-clause-count
returns-clause-count c =
    let at = got c.args.queues.now.items c.args.c c.index_mut.result.now c.requires.there c.index_mut.ensures.value in
    pushed_count c.args.queues.now.items c.args.c c.index_mut.result.now c.push_within.new.items at c.args.held c.push_within.ensures.items

pub returns-clause-room : goal.returns-clause-room
returns-clause-room c =
    let at = got c.args.queues.now.items c.args.c c.index_mut.result.now c.requires.there c.index_mut.ensures.value in
    λ n h. room_set n c.args.queues.now.items c.args.c c.index_mut.result.now c.push_within.new.items at c.push_within.ensures.room h
