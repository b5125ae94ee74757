use Rattle.std.proofs.Common.{subst, sym}
use Rattle.ec_machine_code.specs.Homes.{HasItsVariables}
use Rattle.ec_generate.proofs.assign.table_of.Goals as goal

pub homes_of-requires-clause-variables : goal.homes_of-requires-clause-variables
homes_of-requires-clause-variables c =
    subst (λ n. HasItsVariables n c.args.operation.now.code) (sym c.len-named.ensures) c.requires.small.homes
