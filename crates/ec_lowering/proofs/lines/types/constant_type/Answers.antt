use Rattle.std.proofs.Common.{◌≡◌, Some, None, sym, ap, ◌∙◌}
use Rattle.std.specs.Prelude.{slice_get}
use Rattle.ec_core.specs.declared.Constant.{Constant}
use Rattle.ec_core.specs.declared.Core.{Core}
use Rattle.ec_lowering.proofs.Declared.{type_made}
use Rattle.ec_meaning.specs.Sources.{source_of}
use Rattle.ec_lowering.proofs.lines.types.constant_type.Goals as goal

pub returns-in-Some : goal.returns-in-Some
returns-in-Some c =
    let constants = (source_of c.args.site.now.program.now).core.constants in
    let there : slice_get constants c.args.n ≡ Some c.in-Some.constant.now =
    ap (λ (core : Core). slice_get core.constants c.args.n) (sym c.core.ensures) ∙ sym c.in-Some.ensures.value in
    sym (type_made (λ (k : Constant). k.of) constants c.args.n (Some c.in-Some.constant.now) there)

pub returns-in-None : goal.returns-in-None
returns-in-None c =
    let constants = (source_of c.args.site.now.program.now).core.constants in
    let none : slice_get constants c.args.n ≡ None =
    ap (λ (core : Core). slice_get core.constants c.args.n) (sym c.core.ensures) ∙ sym c.in-None.ensures.value in
    sym (type_made (λ (k : Constant). k.of) constants c.args.n None none)
