-- Machine code can be made of what an accepted text is lowered to.
use Rattle.std.proofs.Common.{sym, subst}
use Rattle.ec_compile.proofs.Few.{text_has_few}
use Rattle.ec_compile.proofs.Texts.{text_is_fine}
use Rattle.ec_compile.proofs.compile.compile.Goals as goal
use Rattle.ec_generate.specs.Fits.{EachFits}
use Rattle.ec_emission.specs.Lowered.{IsLowered, declared_of}
use Rattle.ec_meaning.specs.Sources.{source_of}
use Rattle.ec_generate.specs.Tables.{all_homes}

pub returns-clause-met : goal.returns-clause-met
returns-clause-met g c =
    let s = source_of c.args.program.now in
    let p = c.fitting.result.now in
    let lowered : IsLowered s p = subst (IsLowered s) (sym c.fitting.ensures) c.in_ok-program.ensures.of_it in
    let image = c.in_ok-image.image in
    subst (λ q. EachFits g.M.Target.meaning q image.code (all_homes image.table.operations)) c.fitting.ensures
    (c.in_ok-image.ensures.met (declared_of s) (text_is_fine s c.requires.accepted p lowered) c.requires.rests
    (text_has_few s c.requires.accepted p lowered))
