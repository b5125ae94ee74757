use Rattle.std.proofs.Common.{List, take, refl, ap, ◌∙◌}
use Rattle.ec_types.specs.declared.conform.static_type.StaticType.{StaticType}
use Rattle.ec_meaning.specs.Sources.{source_of}
use Rattle.ec_lowering.proofs.Making.{operation_made}
use Rattle.ec_lowering.proofs.lines.operations.operation_of.Goals as goal

pub returns : goal.returns
returns c =
    let parameters =
    c.in_ok-parameters.ensures ∙ ap (λ (ts : List StaticType). take c.args.o.now.parameters ts) c.as_slice-2.ensures in
    operation_made (source_of c.args.program.now) c.args.o.now _ c.args.class c.as_slice.result.now c.args.ops
    c.requires.own c.as_slice.ensures c.requires.steps refl parameters
    c.result_of.ensures c.is_process.ensures (c.from_vec.ensures ∙ c.in_ok-variables.ensures.items ∙ c.as_slice-3.ensures)
    c.in_ok-code.ensures
