-- The words of MIPS I do what their steps do, and code can be made of what an accepted text is lowered to.
use Rattle.std.proofs.Common.{◌≡◌, ap, sym, subst, arith}
use Rattle.ec_compile.proofs.Few.{text_has_few}
use Rattle.ec_compile.proofs.MipsCompileResting.{mips_can_rest}
use Rattle.ec_compile.proofs.Texts.{text_is_fine}
use Rattle.ec_compile.proofs.mips_compile.compile_for_mips.Goals as goal
use Rattle.ec_emission.specs.Lowered.{IsLowered, declared_of}
use Rattle.ec_generate.specs.Fits.{EachFits}
use Rattle.ec_generate.specs.Tables.{all_homes}
use Rattle.ec_machine_code.specs.Once.{FaithfulOnce}
use Rattle.ec_meaning.specs.Sources.{source_of}
use Rattle.mips_code.proofs.Speaking.{far_speaks, near_speaks}
use Rattle.mips_code.specs.Meaning.{mips_meaning}

pub generate-requires-clause-near : goal.generate-requires-clause-near
generate-requires-clause-near c = near_speaks

pub generate-requires-clause-middle : goal.generate-requires-clause-middle
generate-requires-clause-middle c = far_speaks

pub generate-requires-clause-far : goal.generate-requires-clause-far
generate-requires-clause-far c = far_speaks

pub generate-requires-clause-tables : goal.generate-requires-clause-tables
generate-requires-clause-tables c = record { registers = c.home_registers.result; few = omega arith; are = c.in_ok-table.ensures.tables }

pub bind-requires-clause-apart : goal.bind-requires-clause-apart
bind-requires-clause-apart c =
    let p = c.fitting-fitting.result.now in
    let homes = all_homes c.in_ok-table.table.operations in
    (c.in_ok-code.ensures.keeps p homes c.in_ok-generated.ensures.faithful).faithful.apart

pub returns-clause-faithful : goal.returns-clause-faithful
returns-clause-faithful c =
    let p = c.fitting-fitting.result.now in
    let homes = all_homes c.in_ok-table.table.operations in
    let code = c.in_ok-code.code in
    let same : all_homes c.bind.new.self.operations ≡ homes = ap all_homes c.in_ok-bind.ensures.operations in
    subst (λ q. FaithfulOnce mips_meaning q code (all_homes c.bind.new.self.operations)) c.fitting-fitting.ensures
    (subst (λ h. FaithfulOnce mips_meaning p code h) (sym same) (c.in_ok-code.ensures.keeps p homes c.in_ok-generated.ensures.faithful))

pub returns-clause-met : goal.returns-clause-met
returns-clause-met c =
    let s = source_of c.args.program.now in
    let p = c.fitting-fitting.result.now in
    let homes = all_homes c.in_ok-table.table.operations in
    let code = c.in_ok-code.code in
    let lowered : IsLowered s p = subst (IsLowered s) (sym c.fitting-fitting.ensures) c.in_ok-program.ensures.of_it in
    let met =
    c.in_ok-generated.ensures.met (declared_of s) (text_is_fine s c.requires.accepted p lowered) mips_can_rest
    (text_has_few s c.requires.accepted p lowered) in
    let kept : EachFits mips_meaning p code homes =
    (λ n k q o is_operation is_stop. c.in_ok-code.ensures.fits p homes n q o (met n k q o is_operation is_stop)) in
    let same : all_homes c.bind.new.self.operations ≡ homes = ap all_homes c.in_ok-bind.ensures.operations in
    subst (λ q. EachFits mips_meaning q code (all_homes c.bind.new.self.operations)) c.fitting-fitting.ensures
    (subst (λ h. EachFits mips_meaning p code h) (sym same) kept)
