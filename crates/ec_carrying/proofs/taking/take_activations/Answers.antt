-- Activations go one after another.
use Rattle.std.proofs.Common.{arith}
use Rattle.std.proofs.lemmas.List.{length-map}
use Rattle.ec_carrying.proofs.Leaving.{all_taken, first_is_kept, none_taken, one_taken}
use Rattle.ec_carrying.proofs.taking.take_activations.Goals as goal
use Rattle.ec_world.specs.declared.key.Key.TheVariants.{Frame}
use Rattle.ec_parcels.proofs.Rising.{map_get}
use Rattle.ec_parcels.specs.Owners.{frame_keys}
use Rattle.ec_wire.specs.declared.parcel.ActivationPart.{ActivationPart}

pub loop-i-init : goal.loop-i-init
loop-i-init c = none_taken c.args.cluster.now c.args.from (frame_keys c.args.activations.now) c.requires

pub take_activation-requires : goal.take_activation-requires
take_activation-requires c =
    let parts = c.args.activations.now in
    let key = map_get (λ (a : ActivationPart). Frame a.process a.depth) parts c.loop-i.i c.at-activation.result.now c.at-activation.ensures in
    first_is_kept c.loop-i.cluster c.args.from c.loop-i.i (frame_keys parts) _ key c.loop-i.invariant.left

pub loop-i-preserved : goal.loop-i-preserved
loop-i-preserved c =
    let parts = c.args.activations.now in
    let key = map_get (λ (a : ActivationPart). Frame a.process a.depth) parts c.loop-i.i c.at-activation.result.now c.at-activation.ensures in
    one_taken c.args.cluster.now c.loop-i.cluster c.take_activation.new.cluster c.args.from c.loop-i.i (frame_keys parts) _ key
    c.loop-i.invariant c.take_activation.ensures

pub returns : goal.returns
returns c =
    let n = length-map c.args.activations.now (λ (a : ActivationPart). Frame a.process a.depth) in
    all_taken c.args.cluster.now c.loop-i.cluster c.args.from c.loop-i.i (frame_keys c.args.activations.now)
    (omega (arith, n, c.len-i-end.ensures)) c.loop-i.invariant
