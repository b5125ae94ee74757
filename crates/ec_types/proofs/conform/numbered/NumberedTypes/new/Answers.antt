use Rattle.std.proofs.Common.{◌≡◌, ◌+◌, [], ◌∷◌, ◌++◌, length, take, ap, sym, ◌∙◌, arith}
use Rattle.std.proofs.Math.Seq.{take-length}
use Rattle.std.proofs.lemmas.List.{take_more}
use Rattle.ec_types.specs.Numbered.{IsNumbered}
use Rattle.ec_types.proofs.ByNumber.{rows_push}
use Rattle.ec_types.proofs.conform.numbered.NumberedTypes.new.Goals as goal

pub loop-t-init : goal.loop-t-init
loop-t-init c = rw c.new-rows.ensures.items tt

pub loop-t-preserved : goal.loop-t-preserved
loop-t-preserved c =
    let types = c.as_slice-t-items.result.now in
    let i = c.loop-t.t-index in
    let t = c.t-item.result in
    let names = c.row_of.new.names in
    let row = c.in_ok-row_of.field-0 in
    let numbered : IsNumbered t.operations names row = rw c.as_slice.ensures at c.in_ok-row_of.ensures.0 in
    let taken : take (i + 1) types ≡ take i types ++ t ∷ [] =
    take_more types i t (omega arith) ∙ ap (λ x. take i types ++ x ∷ []) (sym c.t-item.is) in
    let more = c.in_ok-row_of.ensures.1 in
    rw (c.in_ok-push.ensures.items, taken)
    (rows_push (take i types) c.loop-t.names names c.loop-t.rows.items t row more c.loop-t.invariant numbered)

pub invariant_of-result : goal.invariant_of-result
invariant_of-result c =
    let types = c.as_slice-t-items.result.now in
    let all : c.loop-t.t-index ≡ length types = omega arith in
    let whole : take c.loop-t.t-index types ≡ c.args.types.items =
    ap (λ i. take i types) all ∙ take-length types ∙ c.as_slice-t-items.ensures.value in
    record { distinct = c.requires; numbered = rw whole at c.loop-t.invariant }
