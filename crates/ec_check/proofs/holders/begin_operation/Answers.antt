use Rattle.std.proofs.Common.{refl}
use Rattle.ec_check.proofs.Headings.{behind_parameters}
use Rattle.ec_check.proofs.holders.begin_operation.Goals as goal

pub returns : goal.returns
returns c =
    behind_parameters c.args.r.now c.args.parameters.now c.args.returned.now _ c.add_written.new.variables.numbers.items
    c.add_written.new.variables.types
    c.in_ok-add_written.ensures.numbers c.in_ok-add_written.ensures.types c.in_ok-add_result.ensures.numbers
    c.in_ok-add_result.ensures.types
    c.in_ok-declare_heading.ensures refl refl
