use Rattle.ec_stores.specs.Lists.{WrittenList}
use Rattle.ec_stores.specs.Memory.{kind_of}
use Rattle.ec_stores.proofs.lists.write_list.Given as goal

abbrev pub invariant-loop-i : goal.invariant-loop-i
invariant-loop-i l = WrittenList (kind_of l.fn.memory) l.fn.memory l.memory l.blocks l.given l.i
