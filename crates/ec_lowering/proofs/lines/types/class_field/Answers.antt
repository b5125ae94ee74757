use Rattle.std.proofs.Common.{◌≡◌, ◌-◌, ◌≤◌, List, length, None, sym, ap, ◌∙◌}
use Rattle.std.specs.Prelude.{slice_get}
use Rattle.ec_types.specs.declared.conform.static_type.StaticType.{StaticType}
use Rattle.ec_lowering.proofs.Declared.{declared_behind}
use Rattle.ec_lowering.proofs.lines.types.class_field.Goals as goal

pub returns-in-None : goal.returns-in-None
returns-in-None c =
    let k = c.args.class.now in
    let far : length k.captured ≤ c.args.n = rw c.as_slice-captured.ensures at c.if-n-captured.false in
    let none : slice_get k.fields (c.args.n - length k.captured) ≡ None =
    ap (λ (ts : List StaticType). slice_get k.fields (c.args.n - length ts)) (sym c.as_slice-captured.ensures)
    ∙ sym c.in-None.ensures.value in
    sym (declared_behind k c.args.n None far none)
