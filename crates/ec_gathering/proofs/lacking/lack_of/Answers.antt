-- What is asked of the parcels is told of the shipments.
use Rattle.std.proofs.Common.{◌≡◌, ◌∙◌, List, ap, subst, sym}
use Rattle.std.proofs.lemmas.Option.{same_Some}
use Rattle.std.specs.Prelude.{IfNone, IfOk, IfSome, map, option_map}
use Rattle.ec_gathering.proofs.lacking.lack_of.Goals as goal
use Rattle.ec_gathering.specs.Shipping.{parcels_of}
use Rattle.ec_parcels.specs.Owners.{all_blocks, all_values}
use Rattle.ec_objects.specs.Lacks.{HasRoomForAll, LacksRoom}
use Rattle.ec_packing.specs.Room.{AreOfClasses}
use Rattle.ec_stores.specs.Node.{store_of}
use Rattle.ec_things.specs.Store.{Store}
use Rattle.ec_wire.specs.declared.parcel.Contents.{Contents}

pub lack_for-requires : goal.lack_for-requires
lack_for-requires c =
    let same : map (λ p. p.now) c.as_slice.result.now ≡ parcels_of c.args.shipments.now =
    (let items = c.as_slice.ensures.value in let told = c.in_ok-parcels.ensures in cc) in
    subst (λ (xs : List Contents). AreOfClasses c.args.numbers.now xs) (sym same) c.requires.classed

pub returns-clause-some : goal.returns-clause-some
returns-clause-some c = λ s there.
    let same : map (λ p. p.now) c.as_slice.result.now ≡ parcels_of c.args.shipments.now =
    (let items = c.as_slice.ensures.value in let told = c.in_ok-parcels.ensures in cc) in
    let node : store_of c.at.result.now ≡ s =
    same_Some (store_of c.at.result.now) s (sym (ap (option_map store_of) c.at.ensures) ∙ there) in
    subst (λ (t : Store). IfOk c.lack_for.result (λ r. IfSome r (λ lack. LacksRoom t c.args.to
    (all_blocks c.args.numbers.now (parcels_of c.args.shipments.now)) (all_values (parcels_of c.args.shipments.now)) lack))) node
    (subst (λ (xs : List Contents). IfOk c.lack_for.result (λ r. IfSome r (λ lack. LacksRoom (store_of c.at.result.now) c.args.to
    (all_blocks c.args.numbers.now xs) (all_values xs) lack))) same c.lack_for.ensures.some)

pub returns-clause-none : goal.returns-clause-none
returns-clause-none c = λ s there.
    let same : map (λ p. p.now) c.as_slice.result.now ≡ parcels_of c.args.shipments.now =
    (let items = c.as_slice.ensures.value in let told = c.in_ok-parcels.ensures in cc) in
    let node : store_of c.at.result.now ≡ s =
    same_Some (store_of c.at.result.now) s (sym (ap (option_map store_of) c.at.ensures) ∙ there) in
    subst (λ (t : Store). IfOk c.lack_for.result (λ r. IfNone r (HasRoomForAll t
    (all_blocks c.args.numbers.now (parcels_of c.args.shipments.now)) (all_values (parcels_of c.args.shipments.now))))) node
    (subst (λ (xs : List Contents). IfOk c.lack_for.result (λ r. IfNone r (HasRoomForAll (store_of c.at.result.now)
    (all_blocks c.args.numbers.now xs) (all_values xs)))) same c.lack_for.ensures.none)
