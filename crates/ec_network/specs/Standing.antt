-- Systems that run a world as runs of their program come to it, by the code of this program.
use Rattle.ec_parcels.specs.Vectors.{IsTableOf}
use Rattle.ec_cluster.specs.Cluster.{CodeWorld}
use Rattle.ec_code.specs.Typing.{Declared}
use Rattle.ec_legs.specs.Going.{HasCode, HasLiterals}
use Rattle.ec_code.specs.Idle.{OfClasses}
use Rattle.ec_moving.specs.Placed.{IsPlaced}
use Rattle.ec_network.specs.Acts.{Goes}
use Rattle.ec_packing.specs.Between.{IsBetween}
use Rattle.ec_parcels.specs.Classes.{ClassTable}
use Rattle.ec_code.specs.Code.{SmallProgram}
use Rattle.ec_cluster.specs.declared.system.System.{System}
use Rattle.ec_generate.specs.Limits.{CarriesFew, FewConditions}

-- The images of the nodes are the code of the program, its literals are at their places, its literals and numbers are in range, its
-- operations are of classes or of the program, and its activations and monitors have a spelling on the wire.
pub record Works (d : Declared) (s : System) (w : CodeWorld) : Type 0 where
  pub goes : Goes d s w
  pub code : HasCode d s.cluster
  pub literals : HasLiterals s.cluster
  pub small : SmallProgram s.cluster.parts
  pub classes : OfClasses s.cluster.parts
  pub few : CarriesFew s.cluster.parts
  pub conditions : FewConditions s.cluster.parts

-- some world
abbrev pub WorksInSome : System → Type 0
WorksInSome s = (d : Declared) × ((w : CodeWorld) × Works d s w)

-- The world is one between turns, with the object of each node at it.
pub record Stands (d : Declared) (s : System) (w : CodeWorld) : Type 0 where
  pub works : Works d s w
  pub between : IsBetween s.cluster.parts w
  pub placed : IsPlaced w.common

-- some world
abbrev pub StandsInSome : System → Type 0
StandsInSome s = (d : Declared) × ((w : CodeWorld) × Stands d s w)

-- these are the numbers of the program's classes on the wire, for some list of written vector types
abbrev pub HasNumbers : System → ClassTable → Type 0
HasNumbers s table = IsTableOf s.cluster.parts table
