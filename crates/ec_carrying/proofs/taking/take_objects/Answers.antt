-- Objects go one after another.
use Rattle.std.proofs.Common.{arith}
use Rattle.std.proofs.lemmas.List.{length-map}
use Rattle.ec_carrying.proofs.Leaving.{all_taken, first_is_kept, none_taken, one_taken}
use Rattle.ec_carrying.proofs.taking.take_objects.Goals as goal
use Rattle.ec_world.specs.declared.key.Key.TheVariants.{Object}
use Rattle.ec_parcels.proofs.Rising.{map_get}
use Rattle.ec_parcels.specs.Owners.{object_keys}
use Rattle.ec_wire.specs.declared.parcel.ObjectPart.{ObjectPart}

pub loop-i-init : goal.loop-i-init
loop-i-init c = none_taken c.args.cluster.now c.args.from (object_keys c.args.objects.now) c.requires

pub take_object-requires : goal.take_object-requires
take_object-requires c =
    let parts = c.args.objects.now in
    let key = map_get (λ (o : ObjectPart). Object o.number) parts c.loop-i.i c.at-object.result.now c.at-object.ensures in
    first_is_kept c.loop-i.cluster c.args.from c.loop-i.i (object_keys parts) _ key c.loop-i.invariant.left

pub loop-i-preserved : goal.loop-i-preserved
loop-i-preserved c =
    let parts = c.args.objects.now in
    let key = map_get (λ (o : ObjectPart). Object o.number) parts c.loop-i.i c.at-object.result.now c.at-object.ensures in
    one_taken c.args.cluster.now c.loop-i.cluster c.take_object.new.cluster c.args.from c.loop-i.i (object_keys parts) _ key
    c.loop-i.invariant c.take_object.ensures

pub returns : goal.returns
returns c =
    let n = length-map c.args.objects.now (λ (o : ObjectPart). Object o.number) in
    all_taken c.args.cluster.now c.loop-i.cluster c.args.from c.loop-i.i (object_keys c.args.objects.now)
    (omega (arith, n, c.len-i-end.ensures)) c.loop-i.invariant
