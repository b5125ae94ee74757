use Rattle.std.proofs.Common.{◌∙◌}
use Rattle.ec_rules.specs.Names.{unknown_in_signature}
use Rattle.ec_rules.proofs.Noted.{noted_item}
use Rattle.ec_judge.proofs.program.known_signatures.Goals as goal

pub loop-s-preserved : goal.loop-s-preserved
loop-s-preserved c =
    noted_item (unknown_in_signature c.args.table.now) c.loop-s.faults c.known_signature.new.faults c.args.operations.now c.loop-s.s-index
    c.s-item.result c.loop-s-test.true c.s-item.is c.in_ok-known_signature.ensures
    ∙ c.loop-s.invariant
