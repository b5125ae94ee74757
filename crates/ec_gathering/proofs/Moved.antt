-- What is told of the parcels of a group is what the worlds tell, where an activation has asked for the move.
use Rattle.std.proofs.Common.{ℕ, Option}
use Rattle.ec_cluster.specs.Cluster.{CodeWorld, place}
use Rattle.ec_cluster.specs.Steps.{with_common}
use Rattle.ec_code.specs.Activations.{code_meaning}
use Rattle.ec_gathering.proofs.Acted.{acted_needs}
use Rattle.ec_gathering.proofs.Gathered.{gathering_fits, gathering_full, gone_is_such}
use Rattle.ec_gathering.proofs.Same.{each_same, full_same}
use Rattle.ec_fullness.specs.Fullness.{gathered}
use Rattle.ec_gathering.specs.GatheringRoomLaws.{MovesAreFullSo, MovesFit}
use Rattle.ec_world.specs.Outcomes.{gone}
use Rattle.ec_world.specs.World.{Action}

pub moves_are_full : MovesAreFullSo
moves_are_full table d system w below top who members target to fixes xs s lack can runs asks there lacks =
    let moved : CodeWorld = with_common w (gone w.common members target fixes) in
    let places : ℕ → Option ℕ = gathered (place system.cluster) members to in
    full_same system.cluster w moved (Action code_meaning w who.process) places
    (acted_needs d system w below top who members target fixes runs asks places) lack.node lack.part lack.need lack.free
    (gathering_full table system.cluster w moved members to xs s lack can (gone_is_such w members target fixes) there lacks)

pub moves_fit : MovesFit
moves_fit table d system w below top who members target to fixes xs s can runs asks there room =
    let moved : CodeWorld = with_common w (gone w.common members target fixes) in
    let places : ℕ → Option ℕ = gathered (place system.cluster) members to in
    each_same system.cluster w moved (Action code_meaning w who.process) places
    (acted_needs d system w below top who members target fixes runs asks places)
    (gathering_fits table system.cluster w moved members to xs s can (gone_is_such w members target fixes) there room)
