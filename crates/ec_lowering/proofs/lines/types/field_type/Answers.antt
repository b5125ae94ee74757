use Rattle.std.proofs.Common.{◌≡◌, Some, None, sym, ap, ◌∙◌}
use Rattle.std.specs.Prelude.{slice_get}
use Rattle.ec_core.specs.declared.Core.{Core}
use Rattle.ec_lowering.proofs.Declared.{field_of_class, field_of_none}
use Rattle.ec_meaning.specs.Sources.{source_of}
use Rattle.ec_lowering.proofs.lines.types.field_type.Goals as goal

pub returns-in-Some : goal.returns-in-Some
returns-in-Some c =
    let classes = (source_of c.args.site.now.program.now).core.classes in
    let there : slice_get classes c.in-Made.k ≡ Some c.in-Some.class.now =
    ap (λ (core : Core). slice_get core.classes c.in-Made.k) (sym c.core.ensures) ∙ sym c.in-Some.ensures.value in
    rw c.in-Made.is (c.class_field.ensures ∙ sym (field_of_class classes c.in-Made.k c.in-Some.class.now c.args.n there))

pub returns-in-None : goal.returns-in-None
returns-in-None c =
    let classes = (source_of c.args.site.now.program.now).core.classes in
    let none : slice_get classes c.in-Made.k ≡ None =
    ap (λ (core : Core). slice_get core.classes c.in-Made.k) (sym c.core.ensures) ∙ sym c.in-None.ensures.value in
    rw c.in-Made.is (sym (field_of_none classes c.in-Made.k c.args.n none))
