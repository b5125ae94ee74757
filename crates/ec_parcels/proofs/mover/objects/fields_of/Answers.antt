-- One field after another.
use Rattle.std.proofs.Common.{◌≡◌, List, [], ◌∷◌, ◌++◌, take, refl, sym, ap, ◌∙◌, arith}
use Rattle.ec_base.proofs.Lists.{get_there, take_next}
use Rattle.ec_parcels.proofs.mover.objects.fields_of.Goals as goal
use Rattle.ec_objects.proofs.Wording.{take_all}
use Rattle.ec_world.specs.declared.value.Value.{Value}

none_taken : (values : List Value) → take 0 values ≡ []
none_taken [] = refl
none_taken (v ∷ vs) = refl

pub loop-i-init : goal.loop-i-init
loop-i-init c = λ values are. c.new-values.ensures ∙ sym (none_taken values)

pub loop-i-preserved : goal.loop-i-preserved
loop-i-preserved c = λ values are.
    let many = are.many in
    let v = get_there values c.loop-i.i (omega (arith, many)) in
    c.in_ok-push.ensures.ok
    ∙ ap (λ (u : Value). c.loop-i.values ++ u ∷ []) (c.in_ok-value.ensures v.0 (are.each c.loop-i.i v.0 v.1))
    ∙ ap (λ (us : List Value). us ++ v.0 ∷ []) (c.loop-i.invariant values are)
    ∙ sym (take_next values c.loop-i.i v.0 v.1)

pub returns : goal.returns
returns c = λ values are.
    let many = are.many in
    c.loop-i.invariant values are ∙ take_all values c.loop-i.i (omega (arith, many))
