-- A network: a system that stands in some world, or none once it is spent.
use Rattle.std.specs.Prelude.{◌≡◌, ℕ, Bool, List, length, Option, Some, None, IsSome, option_map, slice_get}
use Rattle.ec_cluster.specs.Cluster.{CodeWorld}
use Rattle.ec_cluster.specs.declared.cluster.Images.{Images}
use Rattle.ec_code.specs.Typing.{Declared}
use Rattle.ec_code.specs.declared.activation.CodeActivation.{CodeActivation}
use Rattle.ec_code.specs.declared.code.Parts.{Parts}
use Rattle.ec_asking.specs.Typed.{IsTypedOnce}
use Rattle.ec_code.specs.Idle.{OfClasses}
use Rattle.ec_acts.specs.Loaded.{AreImages, Loaded}
use Rattle.ec_acts.specs.Loading.{CanLoad}
use Rattle.ec_acts.specs.Worlds.{world_first}
use Rattle.ec_network.specs.Moving.{MoveRefusedIn, MovedIn}
use Rattle.ec_network.specs.Nets.{AreCode, Net, numbers_of, system_of}
use Rattle.ec_network.specs.Standing.{HasNumbers, Stands, StandsInSome}
use Rattle.ec_network.specs.Turns.{RefusedIn, TurnedIn}
use Rattle.ec_network.specs.declared.nodes_running.turns.Did.{Did}
use Rattle.ec_network.specs.declared.nodes_running.turns.NetError.{NetError}
use Rattle.ec_network.specs.declared.nodes_running.turns.NetError.TheVariants.{Full, Memory}
use Rattle.ec_code.specs.Code.{SmallProgram}
use Rattle.ec_cluster.specs.declared.system.System.{System}
use Rattle.ec_generate.specs.Limits.{CarriesFew}
use Rattle.ec_parcels.specs.Vectors.{table_of}
use Rattle.ec_world.specs.Objects.{object_at}
use Rattle.ec_world.specs.Sights.{class_of}
use Rattle.ec_world.specs.declared.class.ClassNo.{ClassNo}
use Rattle.ec_world.specs.declared.class.VectorType.{VectorType}
use Rattle.ec_world.specs.declared.node.NodeSpec.{NodeSpec}
use Rattle.ec_world.specs.declared.object.ObjectRec.{ObjectRec}
use Rattle.ec_world.specs.declared.process.Proc.{Proc}
use Rattle.ec_world.specs.declared.process.ProcStatus.{ProcStatus}

-- if it is not spent, it stands in some world, and has the numbers of its program's classes
abbrev pub IsLoaded : Net → Type 0
IsLoaded None = Unit {0}
IsLoaded (Some n) = StandsInSome n.system × HasNumbers n.system n.numbers

-- these numbers are kept, unless it is spent
abbrev pub KeepsNumbers : Net → Net → Type 0
KeepsNumbers old new = IsSome new → numbers_of new ≡ numbers_of old

-- of each world in which it stands
abbrev pub ForStanding : Net → (Declared → System → CodeWorld → Type 0) → Type 0
ForStanding net P = (d : Declared) (s : System) (w : CodeWorld) → system_of net ≡ Some s → Stands d s w → P d s w

-- ---- turns

-- a system that is there now, of which this is told
pub record Now (net : Net) (P : System → Type 0) : Type 0 where
  pub system : System
  pub is : system_of net ≡ Some system
  pub told : P system

abbrev pub NetTurned : Net → Net → ℕ → Did → Type 0
NetTurned old new p did = ForStanding old (λ d s w. Now new (λ t. TurnedIn d s t w p did))

-- want of memory spends a network, and a spent one meets nothing else
abbrev pub NetRefused : Net → Net → ℕ → NetError → Type 0
NetRefused old new p (Full lack) = IsSome old × ForStanding old (λ d s w. Now new (λ t. RefusedIn s t w p (Full lack)))
NetRefused old new p (Memory e) = new ≡ None

-- ---- moves by the operator

abbrev pub NetMoved : Net → Net → ℕ → ℕ → Did → Type 0
NetMoved old new o k did = ForStanding old (λ d s w. Now new (λ t. MovedIn d s t w o k did))

-- a move is refused as a turn is
abbrev pub NetMoveRefused : Net → Net → ℕ → ℕ → NetError → Type 0
NetMoveRefused old new o k (Full lack) = IsSome old × ForStanding old (λ d s w. Now new (λ t. MoveRefusedIn s t w o k (Full lack)))
NetMoveRefused old new o k (Memory e) = new ≡ None

-- ---- the load

-- A program can be loaded with its images, which are its code; what its code has is in range, each live variable has one type, and few
-- values go with an activation.
pub record CanRun (p : Parts) (images : Images) (specs : List NodeSpec) : Type 0 where
  pub loads : CanLoad p images specs
  pub code : AreCode loads.declared p images
  pub small : SmallProgram p
  pub classes : OfClasses p
  pub typed : IsTypedOnce p
  pub few : CarriesFew p

-- The program is loaded, and the system stands in its first world. Its classes have the numbers that they have where these vector types are
-- written.
pub record NetLoaded (p : Parts) (written : List VectorType) (images : Images) (specs : List NodeSpec) (net : Net) : Type 0 where
  pub start : System
  pub is : system_of net ≡ Some start
  pub numbers : numbers_of net ≡ Some (table_of p written)
  pub loaded : Loaded p images specs start
  pub stands : (d : Declared) → AreImages d p images → AreCode d p images → Stands d start (world_first (length specs) p)

-- ---- what is read

-- the status of a process, where it is there
abbrev pub status_at : CodeWorld → ℕ → Option ProcStatus
status_at w p = option_map (λ (q : Proc CodeActivation). q.status)
    (slice_get w.processes p)

-- the class of an object, where it is there
abbrev pub class_at : CodeWorld → ℕ → Option ClassNo
class_at w oid = class_of (object_at w.common.objects oid)

-- whether an object is fixed, where it is there
abbrev pub fixed_at : CodeWorld → ℕ → Option Bool
fixed_at w oid = option_map (λ (o : ObjectRec). o.fixed)
    (object_at w.common.objects oid)
