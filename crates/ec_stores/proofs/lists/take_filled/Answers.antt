use Rattle.std.proofs.Common.{◌<◌, List, ℕ, length, sym, subst}
use Rattle.std.specs.List.{AllByRecursion}
use Rattle.ec_stores.specs.Lists.{IsOnce}
use Rattle.ec_stores.specs.Memory.{held}
use Rattle.ec_stores.proofs.Blocks.{list_in, list_once, list_whole}
use Rattle.ec_stores.proofs.lists.take_filled.Goals as goal

pub write_list-requires-clause-whole : goal.write_list-requires-clause-whole
write_list-requires-clause-whole c = list_whole c.args.memory.now c.take_list.new.memory c.in_ok-blocks.blocks
    c.in_ok-blocks.ensures.taken c.requires.whole

pub write_list-requires-clause-blocks_in : goal.write_list-requires-clause-blocks_in
write_list-requires-clause-blocks_in c =
    subst (λ (l : List ℕ). AllByRecursion (λ b. b < length (held c.take_list.new.memory).links) l) (sym c.as_slice.ensures)
    (list_in c.args.memory.now c.take_list.new.memory c.in_ok-blocks.blocks c.in_ok-blocks.ensures.taken c.requires.whole)

pub write_list-requires-clause-once : goal.write_list-requires-clause-once
write_list-requires-clause-once c = subst (λ (l : List ℕ). IsOnce l) (sym c.as_slice.ensures)
    (list_once c.args.memory.now c.take_list.new.memory c.in_ok-blocks.blocks c.in_ok-blocks.ensures.taken c.requires.whole)
