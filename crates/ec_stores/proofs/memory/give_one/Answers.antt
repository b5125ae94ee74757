use Rattle.ec_stores.proofs.Blocks.{give_apart, give_few, give_in_range, gives_first}
use Rattle.ec_stores.proofs.memory.give_one.Goals as goal

pub give-requires-clause-in_range : goal.give-requires-clause-in_range
give-requires-clause-in_range g c =
    give_in_range c.args.blocks.now c.args.block c.requires.whole c.requires.in_range c.requires.taken

pub give-requires-clause-apart : goal.give-requires-clause-apart
give-requires-clause-apart g c = give_apart c.args.blocks.now c.args.block c.requires.whole c.requires.in_range c.requires.taken

pub give-requires-clause-few : goal.give-requires-clause-few
give-requires-clause-few g c = give_few c.args.blocks.now c.args.block c.requires.whole c.requires.in_range c.requires.taken

pub returns : goal.returns
returns g c =
    gives_first c.args.blocks.now c.args.block c.requires.whole c.requires.in_range c.requires.taken c.give.new.self c.give.ensures
