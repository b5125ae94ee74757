use Rattle.std.proofs.Common.{List, length, refl, ap, subst, ◌∙◌}
use Rattle.std.proofs.lemmas.Option.{slice_get_read}
use Rattle.ec_core.specs.declared.Core.{Core}
use Rattle.ec_core.specs.declared.Operation.{Operation}
use Rattle.ec_emission.specs.Lowered.{IsOperationOf}
use Rattle.ec_meaning.specs.Sources.{source_of}
use Rattle.ec_world.specs.Agree.{AllTwo}
use Rattle.ec_lowering.proofs.Operations.{related_next, all_related}
use Rattle.ec_lowering.proofs.lower.object_operations.Goals as goal

pub loop-o-preserved : goal.loop-o-preserved
loop-o-preserved c =
    let operations = c.as_slice-operations.result.now in
    let there =
    slice_get_read operations (length operations) c.loop-o.o-index c.o-item.result refl c.loop-o-test.true c.o-item.is in
    related_next (IsOperationOf (source_of c.args.tables.now.program.now)) operations c.loop-o.made c.push.new.self c.loop-o.o-index
    c.o-item.result c.in_ok-object_operation.field-0 there c.in_ok-push.ensures.ok c.loop-o.invariant
    c.in_ok-object_operation.ensures

pub returns : goal.returns
returns c =
    let is = IsOperationOf (source_of c.args.tables.now.program.now) in
    let same = c.as_slice-operations.ensures ∙ ap (λ (core : Core). core.operations) c.core.ensures in
    subst (λ (os : List Operation). AllTwo is os c.loop-o.made) same
    (all_related is c.as_slice-operations.result.now c.loop-o.made c.loop-o.o-index c.loop-o-test.false c.loop-o.invariant)
