-- What a move of a group between nodes comes to, and which moves may be done so.
use Rattle.std.specs.Prelude.{◌≡◌, ℕ, suc, false, List, Option, None}
use Rattle.ec_cluster.specs.Cluster.{CodeWorld}
use Rattle.ec_code.specs.Typing.{Declared}
use Rattle.ec_code.specs.declared.activation.CodeActivation.{CodeActivation}
use Rattle.ec_gathering.specs.Gathers.{Gathers, LetsGo, MayGather}
use Rattle.ec_parcels.specs.Classes.{ClassTable}
use Rattle.ec_cluster.specs.Acting.{Asks}
use Rattle.ec_cluster.specs.SystemSteps.{Does}
use Rattle.ec_cluster.specs.declared.system.System.{System}
use Rattle.ec_world.specs.Group.{group_of}
use Rattle.ec_world.specs.Moves.{is_idle_move}
use Rattle.ec_world.specs.Outcomes.{only}
use Rattle.ec_world.specs.declared.doing.Doing.TheVariants.{Moves}
use Rattle.ec_world.specs.declared.stop.Effect.TheVariants.{GoesOn}
use Rattle.ec_world.specs.declared.stop.Who.{Who}

-- ---- which moves may be done

-- Where an activation asks for a move of a group, it may go.
abbrev pub AsksMayGather : Type 0
AsksMayGather =
    (d : Declared) (s : System) (w : CodeWorld) (table : ClassTable) (below : List CodeActivation) (top : CodeActivation) (who : Who)
    (members : List ℕ) (target : ℕ) (fixes : Option ℕ) →
    LetsGo d s w table →
    Asks w below top who (Moves members target fixes) →
    MayGather d s w table members target fixes

-- Where the operator moves the group of an object to a node, and the move isn't idle, it may go where the object of the node is.
abbrev pub OperatorMayGather : Type 0
OperatorMayGather =
    (d : Declared) (s : System) (w : CodeWorld) (table : ClassTable) (oid k : ℕ) →
    LetsGo d s w table →
    is_idle_move w.common oid k ≡ false →
    MayGather d s w table (group_of w.common oid) (suc k) None

-- ---- what a move comes to

-- Where a group has gone, the doing of the move has been done, and who asked for it goes on.
abbrev pub GatheringIsDone : Type 0
GatheringIsDone =
    (old new : System) (w : CodeWorld) (who : Who) (members : List ℕ) (target : ℕ) (fixes : Option ℕ) →
    Gathers old new w members target fixes →
    Does old new w who (Moves members target fixes) (only (GoesOn None))
