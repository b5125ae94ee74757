use Rattle.std.proofs.Common.{◌∙◌}
use Rattle.ec_rules.specs.Names.{unknown_types}
use Rattle.ec_rules.proofs.Noted.{noted_item}
use Rattle.ec_rules.proofs.names.known_types.Goals as goal

pub loop-of-preserved : goal.loop-of-preserved
loop-of-preserved c =
    noted_item (unknown_types c.args.table.now) c.loop-of.faults c.known_type.new.faults c.args.types.now c.loop-of.of-index
    c.of-item.result c.loop-of-test.true c.of-item.is c.in_ok-known_type.ensures
    ∙ c.loop-of.invariant
