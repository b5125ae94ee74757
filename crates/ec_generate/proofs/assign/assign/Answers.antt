use Rattle.std.proofs.Common.{◌≡◌, ◌++◌, ◌+◌, [], ◌∷◌, Some, ap, sym, subst, ◌∙◌, take, length, refl}
use Rattle.std.specs.Prelude.{slice_get}
use Rattle.std.proofs.lemmas.Option.{slice_get_read}
use Rattle.ec_base.proofs.Lists.{take_next}
use Rattle.ec_code.specs.declared.code.Operation.{Operation}
use Rattle.ec_code.specs.declared.code.Parts.{Parts}
use Rattle.ec_machine_code.specs.Limits.{IsSmallOperation}
use Rattle.ec_generate.specs.Tables.{IsTableOf}
use Rattle.ec_generate.specs.declared.table.OperationTable.{OperationTable}
use Rattle.ec_generate.proofs.Listing.{all_at, two_more}
use Rattle.ec_world.specs.Agree.{AllTwo}
use Rattle.ec_generate.proofs.assign.assign.Goals as goal

pub table_of-requires : goal.table_of-requires
table_of-requires c =
    let items = c.as_slice-operation-items.result.now in
    let i = c.loop-operation.operation-index in
    let o = c.operation-item.result in
    let read = slice_get_read items (length items) i o refl c.loop-operation-test.true c.operation-item.is in
    let there : slice_get c.parts-parts.result.now.operations i ≡ Some o =
    ap (λ l. slice_get l i) (sym c.as_slice-operation-items.ensures) ∙ read in
    record { small = all_at IsSmallOperation c.parts-parts.result.now.operations i o c.parts-parts.ensures.fits.limits.operations there }

pub loop-operation-preserved : goal.loop-operation-preserved
loop-operation-preserved c =
    let items = c.as_slice-operation-items.result.now in
    let i = c.loop-operation.operation-index in
    let o = c.operation-item.result in
    let R : Operation → OperationTable → Type 0 = IsTableOf c.args.registers c.args.slots in
    let os = c.args.program.now.operations in
    let old = c.loop-operation.operations in
    let t = c.in_ok-table_of.field-0 in
    let read = slice_get_read items (length items) i o refl c.loop-operation-test.true c.operation-item.is in
    let there_too : slice_get c.parts-parts.result.now.operations i ≡ Some o =
    ap (λ l. slice_get l i) (sym c.as_slice-operation-items.ensures) ∙ read in
    let there : slice_get os i ≡ Some o =
    subst (λ (p : Parts). slice_get p.operations i ≡ Some o) c.parts-parts.ensures.parts there_too in
    let more = two_more R (take i os) old o t c.loop-operation.invariant c.in_ok-table_of.ensures in
    subst (λ ys. AllTwo R (take (i + 1) os) ys) (sym c.in_ok-push.ensures.ok)
    (subst (λ xs. AllTwo R xs (old ++ t ∷ [])) (sym (take_next os i o there)) more)
