-- What keeps objects where the events of worlds have them.
use Rattle.std.specs.Prelude.{◌≡◌, ℕ, IsSome, List, length, Option, Some}
use Rattle.ec_cluster.specs.Cluster.{CodeWorld, place}
use Rattle.ec_cluster.specs.Steps.{with_common}
use Rattle.ec_cluster.specs.declared.cluster.Cluster.{Cluster}
use Rattle.ec_cluster.specs.declared.cluster.Images.{Images}
use Rattle.ec_code.specs.Activations.{code_meaning, code_silent}
use Rattle.ec_code.specs.Typing.{Declared}
use Rattle.ec_code.specs.declared.activation.CodeActivation.{CodeActivation}
use Rattle.ec_code.specs.declared.code.Parts.{Parts}
use Rattle.ec_acts.specs.Doings.{Places}
use Rattle.ec_acts.specs.Loaded.{Loaded}
use Rattle.ec_acts.specs.Worlds.{world_first}
use Rattle.ec_fullness.specs.Fullness.{gathered}
use Rattle.ec_rooms.specs.Places.{HasPlaces, PlacesEach}
use Rattle.ec_cluster.specs.Acting.{Asks}
use Rattle.ec_cluster.specs.SystemSteps.{world_done, world_settled}
use Rattle.ec_cluster.specs.Systems.{Runs}
use Rattle.ec_cluster.specs.declared.system.System.{System}
use Rattle.ec_world.specs.Group.{Has}
use Rattle.ec_world.specs.Moves.{OperatorMove}
use Rattle.ec_world.specs.Objects.{object_at}
use Rattle.ec_world.specs.Outcomes.{gone}
use Rattle.ec_world.specs.World.{Action, GoOn}
use Rattle.ec_world.specs.declared.doing.Doing.{Doing}
use Rattle.ec_world.specs.declared.doing.Outcome.{Outcome}
use Rattle.ec_world.specs.declared.node.NodeSpec.{NodeSpec}
use Rattle.ec_world.specs.declared.stop.Who.{Who}

-- ---- events

-- The events of the first world place its objects. They do so after an action, a move by the operator, and silent steps.
pub record EachIsPlaced : Type 0 where
  pub first : (n : ℕ) (p : Parts) → PlacesEach (world_first n p)
  pub acted : (w : CodeWorld) (i : ℕ) → PlacesEach w → PlacesEach (Action code_meaning w i)
  pub moved : (w : CodeWorld) (o k : ℕ) → PlacesEach w → PlacesEach (OperatorMove w o k)
  pub gone_on : (p : Parts) (w : CodeWorld) (i : ℕ) → PlacesEach w → PlacesEach (GoOn code_meaning (code_silent p) w i)

-- ---- nodes

-- What has just been loaded is where the first world has it.
abbrev pub FirstArePlaced : Type 0
FirstArePlaced = (p : Parts) (images : Images) (specs : List NodeSpec) (s : System) → Loaded p images specs s →
    HasPlaces s.cluster (world_first (length specs) p)

-- After the first step of an action that is no move, with a new object where who acts is, objects are where the world then has them.
abbrev pub DoingsKeepPlaces : Type 0
DoingsKeepPlaces =
    (d : Declared) (old new : System) (w : CodeWorld) (below : List CodeActivation) (top : CodeActivation) (who : Who) (doing : Doing) →
    Runs d old w →
    Asks w below top who doing →
    Places old.cluster new.cluster who.own doing →
    HasPlaces old.cluster w →
    HasPlaces new.cluster (world_done w who doing)

-- The second step moves nothing.
abbrev pub SettlingKeepsPlaces : Type 0
SettlingKeepsPlaces =
    (old new : Cluster) (w : CodeWorld) (p : ℕ) (below : List CodeActivation) (top : CodeActivation) (o : Outcome) →
    new.whereabouts ≡ old.whereabouts →
    HasPlaces old w →
    HasPlaces new (world_settled w p below top o)

-- A group has gone to the node where the target was, and all else is where it was.
pub record AreGathered (old new : Cluster) (members : List ℕ) (target : ℕ) : Type 0 where
  pub node : ℕ
  pub there : place old target ≡ Some node
  pub each : (oid : ℕ) → place new oid ≡ gathered (place old) members node oid

-- So it is then with the world in which the group has gone there.
abbrev pub MovesKeepPlaces : Type 0
MovesKeepPlaces =
    (old new : Cluster) (w : CodeWorld) (members : List ℕ) (target : ℕ) (fixes : Option ℕ) →
    ((oid : ℕ) → Has members oid → IsSome (object_at w.common.objects oid)) →
    AreGathered old new members target →
    HasPlaces old w →
    HasPlaces new (with_common w (gone w.common members target fixes))

-- Silent steps move nothing.
abbrev pub SilentStepsKeepPlaces : Type 0
SilentStepsKeepPlaces =
    (p : Parts) (old new : Cluster) (w : CodeWorld) (i : ℕ) →
    new.whereabouts ≡ old.whereabouts →
    HasPlaces old w →
    HasPlaces new (GoOn code_meaning (code_silent p) w i)
