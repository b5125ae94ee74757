use Rattle.std.proofs.Common.{◌≡◌, List, IfOk, drop, ap, subst, ◌∙◌}
use Rattle.ec_code.specs.declared.code.Op.{Op}
use Rattle.ec_expressions.specs.declared.emitter.Emitter.{Emitter}
use Rattle.ec_lowering.proofs.Programs.{operation_made}
use Rattle.ec_lowering.specs.Blocks.{defaults_onto}
use Rattle.ec_lowering.proofs.statements.operations.operation_ops.Goals as goal

pub returns : goal.returns
returns c =
    let m : Emitter = record {
      tables = c.args.tables;
      captured = c.args.captured;
      types = c.as_slice.result;
      literals = c.args.literals;
    } in
    let o = c.args.o.now in
    let reset =
    c.in_ok-reset_from.ensures
    ∙ ap (λ types. defaults_onto m o.parameters (drop o.parameters types) c.block.new.out) c.as_slice-2.ensures in
    subst (λ (code : List Op). IfOk c.into_ops.result (λ ops. ops ≡ code))
    (operation_made m o c.new-out.result c.leave.new.out c.block.new.out c.reset_from.new.out c.bare.new.out
    c.as_slice.ensures c.new-out.ensures c.in_ok-leave.ensures c.in_ok-block.ensures reset c.in_ok-bare.ensures)
    c.into_ops.ensures
