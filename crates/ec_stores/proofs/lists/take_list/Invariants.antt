use Rattle.std.specs.Prelude.{◌≡◌, length}
use Rattle.ec_stores.specs.Lists.{TakesList}
use Rattle.ec_stores.proofs.lists.take_list.Given as goal

abbrev pub invariant-loop-i : goal.invariant-loop-i
invariant-loop-i l = TakesList l.fn.memory l.memory l.blocks × (length l.blocks ≡ l.i)
