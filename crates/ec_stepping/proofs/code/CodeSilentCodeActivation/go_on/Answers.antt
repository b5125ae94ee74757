use Rattle.ec_stepping.proofs.Silent.{goes_on}
use Rattle.ec_stepping.specs.Stepping.{settled}
use Rattle.ec_stepping.proofs.code.CodeSilentCodeActivation.go_on.Goals as goal

pub returns : goal.returns
returns c =
    goes_on c.args.self.now.parts.now c.args.common c.args.a c.operation-count.result.0.now c.operation-count.result.1
    c.as_slice-literals.result.now c.in_ok-variables.variables c.in_ok-temporaries.temporaries (settled c.in_ok-at.at c.walk.new.m)
    c.resting.result c.operation-count.ensures.lines c.operation-count.ensures.variables c.as_slice-literals.ensures
    c.in_ok-variables.ensures c.in_ok-temporaries.ensures c.in_ok-at.ensures c.resting.ensures
