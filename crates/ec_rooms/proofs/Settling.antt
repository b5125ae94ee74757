-- The second step of an action leaves each object where it is.
use Rattle.std.proofs.Common.{◌≡◌, ℕ, List, refl, length}
use Rattle.ec_cluster.specs.Cluster.{CodeWorld}
use Rattle.ec_code.specs.Activations.{code_meaning}
use Rattle.ec_code.specs.declared.activation.CodeActivation.{CodeActivation}
use Rattle.ec_rooms.proofs.Counting.{Stays}
use Rattle.ec_rooms.proofs.Staying.{stays_places}
use Rattle.ec_rooms.specs.PlacingLaws.{SettlingKeepsPlaces}
use Rattle.ec_acts.proofs.Mirrored.{given_length}
use Rattle.ec_cluster.specs.SystemSteps.{world_settled}
use Rattle.ec_world.specs.World.{given_up, owns_of, settled}
use Rattle.ec_world.specs.declared.doing.Outcome.{Outcome}
use Rattle.ec_world.specs.declared.object.ObjectRec.{ObjectRec}

-- who gives up monitors leaves as many objects
with_given : (w : CodeWorld) (p : ℕ) (below : List CodeActivation) (top : CodeActivation) (o : Outcome)
    (given : List ObjectRec × List ℕ) → length given.0 ≡ length w.common.objects →
    Stays w.common (settled code_meaning w p below top w.common o given).common
with_given w p below top o (objects, freed) many = record { nodes = refl; events = refl; objects = many }

pub settled_stays : (w : CodeWorld) (p : ℕ) (below : List CodeActivation) (top : CodeActivation) (o : Outcome) →
    Stays w.common (world_settled w p below top o).common
settled_stays w p below top o =
    with_given w p below top o (given_up p (owns_of code_meaning below top) o.effect w.common.objects)
    (given_length p (owns_of code_meaning below top) o.effect w.common.objects)

pub settling_keeps_places : SettlingKeepsPlaces
settling_keeps_places old new w p below top o same has =
    stays_places old new w (world_settled w p below top o) (settled_stays w p below top o) same has
