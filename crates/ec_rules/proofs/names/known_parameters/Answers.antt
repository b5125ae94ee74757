use Rattle.std.proofs.Common.{◌∙◌}
use Rattle.ec_rules.specs.Names.{unknown_types}
use Rattle.ec_rules.proofs.Noted.{noted_item}
use Rattle.ec_rules.proofs.names.known_parameters.Goals as goal

pub loop-p-preserved : goal.loop-p-preserved
loop-p-preserved c =
    noted_item (λ p. unknown_types c.args.table.now p.of) c.loop-p.faults c.known_type.new.faults c.args.parameters.now
    c.loop-p.p-index
    c.p-item.result c.loop-p-test.true c.p-item.is c.in_ok-known_type.ensures
    ∙ c.loop-p.invariant
