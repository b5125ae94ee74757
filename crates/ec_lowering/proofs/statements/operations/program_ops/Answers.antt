use Rattle.std.proofs.Common.{◌≡◌, List, IfOk, sym, ap, ap₂, subst, ◌∙◌}
use Rattle.ec_code.specs.declared.code.Op.{Op}
use Rattle.ec_core.specs.declared.Core.{Core}
use Rattle.ec_emission.specs.Statements.{program_ops}
use Rattle.ec_meaning.specs.Programs.{Source}
use Rattle.ec_lowering.proofs.Programs.{program_made}
use Rattle.ec_lowering.specs.Blocks.{constants_onto}
use Rattle.ec_lowering.proofs.statements.operations.program_ops.Goals as goal

pub returns : goal.returns
returns c =
    let m = c.own_emitter-emitter.result in
    let e = c.own_emitter-emitter.ensures in
    let constants =
    c.as_slice.ensures
    ∙ ap (λ (core : Core). core.constants) (c.core.ensures ∙ ap (λ (s : Source). s.core) (sym e.source)) in
    let given = c.in_ok-give_constants.ensures ∙ ap (λ cs. constants_onto m 0 cs c.bare.new.out) constants in
    let made =
    program_made m c.new-out.result c.bare.new.out c.give_constants.new.out c.bare-2.new.out e.captured e.types
    c.new-out.ensures c.in_ok-bare.ensures given c.in_ok-bare-2.ensures in
    subst (λ (code : List Op). IfOk c.into_ops.result (λ ops. ops ≡ code)) (made ∙ ap₂ program_ops e.source e.literals)
    c.into_ops.ensures
