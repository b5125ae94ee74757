-- What the settling of an outcome asks of a system.
use Rattle.std.specs.Prelude.{◌≡◌, List, length}
use Rattle.ec_cluster.specs.Cluster.{CodeWorld}
use Rattle.ec_cluster.specs.Frames.{HasImages}
use Rattle.ec_code.specs.Typing.{Declared}
use Rattle.ec_code.specs.declared.activation.CodeActivation.{CodeActivation}
use Rattle.ec_cluster.specs.Acting.{IsTop}
use Rattle.ec_cluster.specs.SystemSteps.{CanSettle}
use Rattle.ec_cluster.specs.Systems.{Mirrors}
use Rattle.ec_cluster.specs.declared.system.System.{System}
use Rattle.ec_world.specs.declared.doing.Outcome.{Outcome}
use Rattle.ec_world.specs.declared.stop.Who.{Who}

-- A system shows a world in which an outcome can be settled: the activation that acts is on top.
pub record SettlesIn (d : Declared) (s : System) (w : CodeWorld) (below : List CodeActivation) (top : CodeActivation) (who : Who)
    (o : Outcome) : Type 0 where
  pub images : HasImages d s.cluster
  pub mirrors : Mirrors s w
  pub is_top : IsTop w who.process below top
  pub depth : who.depth ≡ length below
  pub owns : who.own ≡ top.own
  pub can : CanSettle s.cluster who.process below top o

-- so it can in some world
pub record CanBeSettled (s : System) (who : Who) (o : Outcome) : Type 0 where
  pub declared : Declared
  pub world : CodeWorld
  pub below : List CodeActivation
  pub top : CodeActivation
  pub settles : SettlesIn declared s world below top who o
