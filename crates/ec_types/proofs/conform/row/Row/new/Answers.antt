use Rattle.std.proofs.Common.{◌≡◌, ℕ, suc, ◌+◌, ◌-◌, ◌<◌, ◌∷◌, length, drop, drop-cons, add-one, ap, sym, subst, ◌∙◌, arith}
use Rattle.std.specs.Ordering.{nat_cmp}
use Rattle.std.specs.BTreeMap.{get}
use Rattle.ec_types.specs.Rows.{place_from}
use Rattle.ec_types.proofs.Rows.{placed_before}
use Rattle.ec_types.proofs.conform.row.Row.new.Goals as goal

pub invariant_of-result : goal.invariant_of-result
invariant_of-result c = λ number. let first : c.loop-place.place ≡ 0 = omega arith in rw first at (c.loop-place.invariant number)

pub loop-place-preserved : goal.loop-place-preserved
loop-place-preserved c =
    let items = c.args.numbers.items in
    let place = c.loop-place.place - 1 in
    let next : c.loop-place.place ≡ place + 1 = omega arith in
    let before : (x : ℕ) → get nat_cmp c.loop-place.places x ≡ place_from (place + 1) (drop (place + 1) items) x =
    λ x. subst (λ p. get nat_cmp c.loop-place.places x ≡ place_from p (drop p items) x) next (c.loop-place.invariant x) in
    let own = c.index.result.now in
    let within : place < length items = omega arith in
    let split : drop place items ≡ own ∷ drop (place + 1) items =
    drop-cons items place own within ∙ ap (λ x. x ∷ drop (suc place) items) (sym c.index.ensures)
    ∙ ap (λ k. own ∷ drop k items) (sym (add-one place)) in
    let updates = c.in_ok-insert.ensures.updates in
    let new = placed_before c.loop-place.places c.insert.new.self (drop (place + 1) items) place own updates before in
    λ number. rw split (new number)
