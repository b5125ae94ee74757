use Rattle.std.proofs.Common.{◌≡◌, ◌+◌, Some, [], ◌∷◌, ◌++◌, take, ap, sym, ◌∙◌, arith}
use Rattle.std.proofs.lemmas.List.{take_more}
use Rattle.ec_types.specs.Names.{first_named}
use Rattle.ec_types.proofs.ByNumber.{more_joined, numbered_more, numbered_push}
use Rattle.ec_types.proofs.conform.numbered.row_of.Goals as goal

pub loop-o-preserved : goal.loop-o-preserved
loop-o-preserved c =
    let operations = c.args.operations.now in
    let i = c.loop-o.o-index in
    let o = c.o-item.result in
    let before = c.loop-o.names in
    let names = c.number_of.new.names in
    let numbers = c.loop-o.numbers.items in
    let number = c.in_ok-number_of.field-0 in
    let more = c.in_ok-number_of.ensures.1 in
    let found : first_named names o.name ≡ Some number = rw c.as_slice.ensures at c.in_ok-number_of.ensures.0 in
    let taken : take (i + 1) operations ≡ take i operations ++ o ∷ [] =
    take_more operations i o (omega arith) ∙ ap (λ x. take i operations ++ x ∷ []) (sym c.o-item.is) in
    let numbered = numbered_more (take i operations) before names numbers more c.loop-o.invariant.0 in
    let pushed = numbered_push (take i operations) names numbers o number numbered found in (
      rw (c.in_ok-push.ensures.items, taken) pushed,
      more_joined c.args.names.now before names c.loop-o.invariant.1 more,
    )
