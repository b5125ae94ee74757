use Rattle.std.proofs.Common.{◌≡◌, Bool, ◌<◌, ◌+◌, ◌&&◌, true, false, length, drop, ap, sym, ◌∙◌, arith}
use Rattle.std.specs.Option.{option_copied}
use Rattle.ec_types.specs.Conforms.{Relation, has_operation, has_operations, operations_at}
use Rattle.ec_types.specs.Pairs.{in_table}
use Rattle.ec_types.proofs.Distinct.{by_one, from_place}
use Rattle.ec_types.proofs.conform.pairs.meets.Goals as goal

pub loop-place-preserved : goal.loop-place-preserved
loop-place-preserved c =
    let types = c.args.types.now in
    let r : Relation = in_table (length types) c.args.pairs.now in
    let own = operations_at types c.args.s in
    let wanted = c.operations-wanted.result.now in
    let place = c.loop-place.place in
    let w = c.index-wanted-place.result in
    let is = c.index-wanted-place.is in
    let within : place < length wanted = omega arith in
    let named = rw (← c.operations-wanted.ensures) at c.like.ensures.named in
    let one = by_one types r own wanted place w (option_copied c.like.result) within is c.like.ensures.distinct named in
    let stands : has_operation types r own w ≡ true = one ∙ sym c.one_fits.ensures ∙ c.if-not-one_fits.false in
    let behind = λ (b : Bool). b && has_operations types r own (drop (place + 1) wanted) in
    sym (from_place types r own wanted place w within is ∙ ap behind stands) ∙ c.loop-place.invariant

pub returns-then-not-one_fits : goal.returns-then-not-one_fits
returns-then-not-one_fits c =
    let types = c.args.types.now in
    let r : Relation = in_table (length types) c.args.pairs.now in
    let own = operations_at types c.args.s in
    let wanted = c.operations-wanted.result.now in
    let place = c.loop-place.place in
    let w = c.index-wanted-place.result in
    let is = c.index-wanted-place.is in
    let within : place < length wanted = omega arith in
    let named = rw (← c.operations-wanted.ensures) at c.like.ensures.named in
    let one = by_one types r own wanted place w (option_copied c.like.result) within is c.like.ensures.distinct named in
    let none : has_operation types r own w ≡ false = one ∙ sym c.one_fits.ensures ∙ c.if-not-one_fits.true in
    let behind = λ (b : Bool). b && has_operations types r own (drop (place + 1) wanted) in
    let all : has_operations types r own wanted ≡ false =
    sym c.loop-place.invariant ∙ from_place types r own wanted place w within is ∙ ap behind none in
    rw c.operations-wanted.ensures at (sym all)
