use Rattle.std.proofs.Common.{arith}
use Rattle.ec_monitors.proofs.Queues.{got, room_set, first_is, none_is, first_count}
use Rattle.ec_monitors.proofs.lists.first_at.Goals as goal

pub returns-clause-some : goal.returns-clause-some
returns-clause-some c =
    let at = got c.args.queues.now.items c.args.c c.index_mut.result.now c.requires.there c.index_mut.ensures.value in
    first_is c.args.queues.now.items c.args.c c.index_mut.result.now c.take_first.new.items at c.take_first.result c.take_first.ensures.some

pub returns-clause-none : goal.returns-clause-none
returns-clause-none c =
    let at = got c.args.queues.now.items c.args.c c.index_mut.result.now c.requires.there c.index_mut.ensures.value in
    none_is c.args.queues.now.items c.args.c c.index_mut.result.now c.take_first.new.items at c.take_first.result
    c.take_first.ensures.none c.take_first.ensures.none_new

pub returns-clause-count : goal.returns-clause-count
returns-clause-count c =
    let at = got c.args.queues.now.items c.args.c c.index_mut.result.now c.requires.there c.index_mut.ensures.value in
    first_count c.args.queues.now.items c.args.c c.index_mut.result.now c.take_first.new.items at c.take_first.result
    c.take_first.ensures.some_count c.take_first.ensures.none c.take_first.ensures.none_new

pub returns-clause-room : goal.returns-clause-room
returns-clause-room c =
    let at = got c.args.queues.now.items c.args.c c.index_mut.result.now c.requires.there c.index_mut.ensures.value in
    λ n h. room_set n c.args.queues.now.items c.args.c c.index_mut.result.now c.take_first.new.items at
    (omega (arith, c.take_first.ensures.room)) h
