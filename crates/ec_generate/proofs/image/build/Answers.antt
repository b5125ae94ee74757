use Rattle.std.proofs.Common.{◌≡◌, ap, sym, subst, arith}
use Rattle.ec_generate.proofs.image.build.Goals as goal
use Rattle.ec_generate.specs.Fits.{EachFits}
use Rattle.ec_generate.specs.Tables.{all_homes}
use Rattle.ec_machine_code.specs.Once.{FaithfulOnce}

pub generate-requires-clause-tables : goal.generate-requires-clause-tables
generate-requires-clause-tables g c =
    record { registers = c.home_registers.result; few = omega arith; are = c.in_ok-table.ensures.tables }

pub bind-requires-clause-apart : goal.bind-requires-clause-apart
bind-requires-clause-apart g c = c.in_ok-code.ensures.faithful.faithful.apart

pub returns-clause-faithful : goal.returns-clause-faithful
returns-clause-faithful g c =
    let p = c.args.program.now in
    let same : all_homes c.bind.new.self.operations ≡ all_homes c.in_ok-table.table.operations = ap all_homes c.in_ok-bind.ensures.operations in
    subst (λ h. FaithfulOnce g.M.Target.meaning p c.in_ok-code.code h) (sym same) c.in_ok-code.ensures.faithful

pub returns-clause-met : goal.returns-clause-met
returns-clause-met g c = λ d fine rests few.
    let p = c.args.program.now in
    let same : all_homes c.bind.new.self.operations ≡ all_homes c.in_ok-table.table.operations = ap all_homes c.in_ok-bind.ensures.operations in
    subst (λ h. EachFits g.M.Target.meaning p c.in_ok-code.code h) (sym same) (c.in_ok-code.ensures.met d fine rests few)
