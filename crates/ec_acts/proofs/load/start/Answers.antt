-- Process 0 is about to run operation 0.
use Rattle.std.proofs.Common.{◌++◌, List, [], ◌∷◌, length, replicate, refl, ap, ◌∙◌}
use Rattle.ec_cluster.specs.Located.{first_made}
use Rattle.ec_acts.proofs.Arriving.{loaded}
use Rattle.ec_acts.proofs.Going.{can_begin, has_images, own_at, world_set}
use Rattle.ec_acts.proofs.load.start.Goals as goal
use Rattle.ec_acts.specs.Worlds.{with_objects}
use Rattle.ec_cluster.specs.declared.system.ProcessRow.{ProcessRow}
use Rattle.ec_world.specs.Run.{node_object, program_object}
use Rattle.ec_world.specs.declared.process.ProcStatus.TheVariants.{Ready}

pub begin_first-requires : goal.begin_first-requires
begin_first-requires c =
    can_begin c.args.parts c.args.images c.args.specs.now c.requires.can c.requires.room c.in_ok-cluster.cluster c.in_ok-cluster.ensures

pub returns : goal.returns
returns c =
    let p = c.args.parts in
    let images = c.args.images in
    let specs = c.args.specs.now in
    let can = c.requires.can in
    let room = c.requires.room in
    let before = c.in_ok-cluster.cluster in
    let set = c.in_ok-cluster.ensures in
    let w = with_objects (length specs) p (replicate (length specs) node_object ++ program_object ∷ []) in
    let at = first_made (length specs) in
    loaded p images specs c.begin_first.new.cluster c.push.new.self c.new.result
    (world_set p images specs c.begin_first.new.cluster (c.in_ok-begin_first.ensures can.declared p images specs w at
    (has_images p images specs can room before w at set) set refl (own_at p images specs can room before set)))
    (c.in_ok-push.ensures.ok
    ∙ ap (λ (rows : List ProcessRow). rows ++ record { activations = 1; status = Ready } ∷ []) c.new-processes.ensures) c.new.ensures room
