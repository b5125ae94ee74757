-- Where objects are on the nodes of a network, and what moves there: a group goes together, a fixed object goes by its own refix alone, and
-- a node never does. (Jul, Levy, Hutchinson, Black 1988: move, fix, refix.)
use Rattle.std.specs.Prelude.{◌≡◌, ◌<◌, ◌⊎◌, ℕ, suc, [], length, Option, Some, None, IsSome}
use Rattle.ec_cluster.specs.Cluster.{CodeWorld, place}
use Rattle.ec_cluster.specs.Whereabouts.{Traces, addresses_at, moves_of, start_at}
use Rattle.ec_cluster.specs.declared.system.System.{System}
use Rattle.ec_code.specs.Activations.{code_meaning}
use Rattle.ec_code.specs.Typing.{Declared}
use Rattle.ec_forwarding.specs.Following.{IsFound}
use Rattle.ec_moving.specs.Placed.{AsksToMove, ComeTo, IsFixed, MayGo, Refixes, TakesAlong}
use Rattle.ec_network.specs.Moving.{MovedTo}
use Rattle.ec_network.specs.Nets.{Net, system_of}
use Rattle.ec_network.specs.Networks.{ForStanding}
use Rattle.ec_network.specs.Standing.{Stands}
use Rattle.ec_network.specs.Turns.{TurnOf}
use Rattle.ec_network.specs.declared.nodes_running.turns.Did.{Did}
use Rattle.ec_network.specs.declared.nodes_running.turns.Did.TheVariants.{Idle, Acted, Moved}
use Rattle.ec_world.specs.Group.{group_of}
use Rattle.ec_world.specs.Objects.{object_at}
use Rattle.ec_world.specs.declared.stop.Stop.{Stop}

-- ---- from a system that stands in a world to the one after an entry

-- The action of a turn moves, fixes or refixes an object whose group may go: its members come to where the target is, and every other
-- object is where it was.
abbrev pub TurnsBringTheGroup : Type 0
TurnsBringTheGroup =
    (d : Declared) (old new : System) (w : CodeWorld) (p steps x target node : ℕ) (stop : Stop) → Stands d old w →
    TurnOf d old new w p steps → AsksToMove code_meaning w p stop x target → MayGo w.common x stop →
    place old.cluster target ≡ Some node → ComeTo (place old.cluster) (place new.cluster) (group_of w.common x) node

-- Nothing else that a turn does moves an object that is there.
abbrev pub OthersStayInTurns : Type 0
OthersStayInTurns =
    (d : Declared) (old new : System) (w : CodeWorld) (p steps x : ℕ) → Stands d old w → TurnOf d old new w p steps →
    IsSome (object_at w.common.objects x) → (place new.cluster x ≡ place old.cluster x) ⊎ TakesAlong code_meaning w p x

-- A move by the operator brings the members of the object's group to the node, and every other object is where it was.
abbrev pub MovesBringTheGroup : Type 0
MovesBringTheGroup =
    (d : Declared) (old new : System) (w : CodeWorld) (o k : ℕ) → Stands d old w → MovedTo d old new w o k →
    ComeTo (place old.cluster) (place new.cluster) (group_of w.common o) k

-- A fixed object goes by its own refix alone.
pub record FixedObjectsStay : Type 0 where
  pub by_turn :
      (d : Declared) (old new : System) (w : CodeWorld) (p steps x : ℕ) → Stands d old w → TurnOf d old new w p steps →
      IsFixed w.common x → (place new.cluster x ≡ place old.cluster x) ⊎ Refixes code_meaning w p x
  pub by_move :
      (d : Declared) (old new : System) (w : CodeWorld) (o k x : ℕ) → Stands d old w → MovedTo d old new w o k →
      IsFixed w.common x → place new.cluster x ≡ place old.cluster x

-- The object of each node is at it, in whatever world a system stands.
abbrev pub NodesStay : Type 0
NodesStay =
    (d : Declared) (s : System) (w : CodeWorld) (k : ℕ) → Stands d s w → k < length s.cluster.nodes →
    place s.cluster (suc k) ≡ Some k

-- ---- what a caller of a network is told

abbrev pub place_in : Option System → ℕ → Option ℕ
place_in None x = None
place_in (Some s) x = place s.cluster x

-- the node at which an object is; none where it is not there, or the network is spent
abbrev pub place_on : Net → ℕ → Option ℕ
place_on net x = place_in (system_of net) x

-- what nodes know of objects; nothing where the network is spent
abbrev pub known_on : Net → Traces
known_on None = []
known_on (Some n) = n.system.cluster.whereabouts

-- how often an object has moved
abbrev pub moves_on : Net → ℕ → ℕ
moves_on net x = moves_of (known_on net) x

-- from a node one finds an object at this place in so many hops
abbrev pub IsFoundFrom : Net → ℕ → ℕ → ℕ → ℕ → Type 0
IsFoundFrom net x from place hops = IsFound (addresses_at (known_on net) x) (start_at (known_on net) x from) place hops

abbrev pub nodes_on : Net → ℕ
nodes_on None = 0
nodes_on (Some n) = length n.system.cluster.nodes

-- object k + 1, which is that of node k, is there
abbrev pub NodesAreHome : Net → Type 0
NodesAreHome net = (k : ℕ) → k < nodes_on net → place_on net (suc k) ≡ Some k

-- What a move by the operator did: the members have come to the node, and every other object is where it was; or each is.
abbrev pub WentTogether : Net → Net → CodeWorld → ℕ → ℕ → Did → Type 0
WentTogether old new w o k Idle = (x : ℕ) → place_on new x ≡ place_on old x
WentTogether old new w o k (Acted steps) = ⊥
WentTogether old new w o k Moved = ComeTo (place_on old) (place_on new) (group_of w.common o) k

-- by a move of the operator
abbrev pub GoTogether : Net → Net → ℕ → ℕ → Did → Type 0
GoTogether old new o k did = ForStanding old (λ d s w. WentTogether old new w o k did)

-- Each fixed object is where it was.
abbrev pub FixedStay : Net → Net → Type 0
FixedStay old new = ForStanding old (λ d s w. (x : ℕ) → IsFixed w.common x → place_on new x ≡ place_on old x)

-- Each is, unless the action of the process refixed it.
abbrev pub FixedStayUnlessRefixed : Net → Net → ℕ → Type 0
FixedStayUnlessRefixed old new p =
    ForStanding old (λ d s w. (x : ℕ) → IsFixed w.common x → (place_on new x ≡ place_on old x) ⊎ Refixes code_meaning w p x)
