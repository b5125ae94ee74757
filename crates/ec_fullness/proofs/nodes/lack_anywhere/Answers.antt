-- One node after another.
use Rattle.std.proofs.Common.{[], ◌∷◌, ◌≡◌, List, arith, false, subst, true}
use Rattle.std.specs.Prelude.{IfNone, IfSome, is_some}
use Rattle.ec_fullness.proofs.Telling.{all_before, first_told, none_told, one_more}
use Rattle.ec_fullness.proofs.nodes.lack_anywhere.Goals as goal
use Rattle.ec_objects.specs.Lacks.{HasRoomForAll, LacksRoom}
use Rattle.ec_stores.specs.Node.{store_of}
use Rattle.ec_world.specs.declared.value.Value.{Value}

pub returns-then-is_some : goal.returns-then-is_some
returns-then-is_some c =
    let r = c.in_ok-lack.lack in
    let some : is_some r ≡ true = (let e = c.is_some.ensures in let t = c.if-is_some.true in cc) in
    first_told c.args.cluster.now (c.args.value.now ∷ []) c.loop-k.k c.at.result.now r c.loop-k.invariant c.at.ensures some
    (subst (λ (vs : List Value). IfSome r (λ lack. LacksRoom (store_of c.at.result.now) c.loop-k.k 0 vs lack)) c.from_ref.ensures.value
    c.in_ok-lack.ensures.some)

pub loop-k-preserved : goal.loop-k-preserved
loop-k-preserved c =
    let r = c.in_ok-lack.lack in
    let none : is_some r ≡ false = (let e = c.is_some.ensures in let t = c.if-is_some.false in cc) in
    one_more c.args.cluster.now (c.args.value.now ∷ []) c.loop-k.k c.at.result.now c.loop-k.invariant c.at.ensures
    (none_told r (HasRoomForAll (store_of c.at.result.now) 0 (c.args.value.now ∷ [])) none
    (subst (λ (vs : List Value). IfNone r (HasRoomForAll (store_of c.at.result.now) 0 vs)) c.from_ref.ensures.value
    c.in_ok-lack.ensures.none))

pub returns : goal.returns
returns c =
    all_before c.args.cluster.now (c.args.value.now ∷ []) c.loop-k.k c.loop-k.invariant (omega (arith, c.len-k-end.ensures))
