use Rattle.std.proofs.Common.{[], ◌∷◌, ◌++◌, ap, ◌∙◌}
use Rattle.ec_meaning.specs.Sources.{source_of}
use Rattle.ec_lowering.proofs.Operations.{all_operations}
use Rattle.ec_lowering.proofs.lower.operations_of.Goals as goal

pub returns : goal.returns
returns c =
    let first = c.in_ok-program_operation.field-0 in
    let others = c.in_ok-object_operations.field-0 in
    all_operations (source_of c.args.tables.now.program.now) first others c.append.new.self
    (c.in_ok-append.ensures.ok
    ∙ ap (λ ms. ms ++ others) (c.in_ok-push.ensures.ok ∙ ap (λ ms. ms ++ first ∷ []) c.new-operations.ensures))
    c.in_ok-program_operation.ensures c.in_ok-object_operations.ensures
