-- The stop that is found is the one at which the activation rests.
use Rattle.std.proofs.Common.{refl, ◌∙◌, Some, subst, sym}
use Rattle.std.proofs.lemmas.Option.{same_Some}
use Rattle.ec_activations.specs.Frames.{frame_thing}
use Rattle.ec_node_frames.specs.Arriving.{Arrives}
use Rattle.ec_node_frames.specs.Carried.{values_carried}
use Rattle.ec_parcels.proofs.Stops.{part_heads, stop_there}
use Rattle.ec_parcels.proofs.mover.laws.activations_come_whole.Goals as goal
use Rattle.ec_parcels.specs.Activations.{IsStopOf, activation_part_of, headings_in}
use Rattle.ec_world.specs.declared.key.Key.TheVariants.{Frame}
use Rattle.ec_generate.specs.declared.table.StopEntry.{StopEntry}
use Rattle.ec_things.specs.Things.{Puts}
use Rattle.ec_wire.specs.declared.parcel.ActivationPart.{ActivationPart}

pub returns : goal.returns
returns c = λ d p homes tables table a e found part s s' process depth has goes is at arrives.
    let h = headings_in (activation_part_of process depth p a e) in
    let heads = part_heads process depth p a e in
    let values = values_carried p a e a.pending in
    subst (λ (x : ActivationPart).
    IsStopOf tables x table found → Arrives s s' table found x.process x.depth (headings_in x) x.values →
    Puts s s' (Frame process depth) (Some (frame_thing p homes process depth a))) (sym is)
    (λ there comes.
    let same = same_Some found e (sym there.stop ∙ stop_there d p s.kind homes tables has a e goes h table heads there.its) in
    subst (λ (x : StopEntry). Arrives s s' table x process depth h values) same comes d p homes tables a has there.its goes heads refl)
    at arrives
