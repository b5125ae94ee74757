use Rattle.ec_stores.proofs.Blocks.{takes_first}
use Rattle.ec_stores.proofs.memory.take_one.Goals as goal

pub returns-in-Some-clause-taken : goal.returns-in-Some-clause-taken
returns-in-Some-clause-taken g c = takes_first c.args.blocks.now c.take.new.self c.in-Some.list.first c.in-Some.ensures.taken.1
