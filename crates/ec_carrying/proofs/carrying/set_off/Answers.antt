-- Objects go, then activations, and then it is noted that the objects are at the other node.
use Rattle.std.proofs.Common.{◌∙◌, subst, sym}
use Rattle.ec_carrying.proofs.Once.{once_front}
use Rattle.ec_carrying.proofs.SettingOff.{activations_kept, all_set_off}
use Rattle.ec_carrying.proofs.carrying.set_off.Goals as goal
use Rattle.ec_cluster.specs.Whereabouts.{FewElsewhere, Traces, WentTo}
use Rattle.ec_parcels.specs.Owners.{frame_keys, object_keys}

pub take_activations-requires : goal.take_activations-requires
take_activations-requires c =
    activations_kept c.args.cluster.now c.take_objects.new.cluster c.args.from c.args.contents.now c.requires.kept c.take_objects.ensures

pub note_moves-requires-clause-once : goal.note_moves-requires-clause-once
note_moves-requires-clause-once c =
    once_front (object_keys c.args.contents.now.objects) (frame_keys c.args.contents.now.activations) c.requires.kept.once

pub note_moves-requires-clause-few : goal.note_moves-requires-clause-few
note_moves-requires-clause-few c =
    subst (λ (d : Traces). FewElsewhere c.args.to d) (sym (c.take_activations.ensures.whereabouts ∙ c.take_objects.ensures.whereabouts))
    c.requires.few

pub returns-clause-off : goal.returns-clause-off
returns-clause-off c =
    all_set_off c.args.cluster.now c.take_objects.new.cluster c.args.from c.args.contents.now c.requires.kept c.take_objects.ensures
    c.take_activations.new.cluster c.note_moves.new.whereabouts c.args.to c.take_activations.ensures c.in_ok-note_moves.ensures.there
    c.in_ok-note_moves.ensures.others c.in_ok-note_moves.ensures.count

pub returns-clause-went : goal.returns-clause-went
returns-clause-went c =
    subst (λ (d : Traces). WentTo c.args.to d c.note_moves.new.whereabouts)
    (c.take_activations.ensures.whereabouts ∙ c.take_objects.ensures.whereabouts) c.in_ok-note_moves.ensures.went
