use Rattle.std.specs.Prelude.{take}
use Rattle.ec_stores.specs.Lists.{GivesList}
use Rattle.ec_stores.proofs.lists.give_list.Given as goal

abbrev pub invariant-loop-i : goal.invariant-loop-i
invariant-loop-i l = GivesList l.fn.memory l.memory (take l.i l.blocks)
