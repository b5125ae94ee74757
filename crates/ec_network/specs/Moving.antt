-- What a move of an object's group to a node by the operator comes to.
use Rattle.std.specs.Prelude.{ℕ, ◌||◌, Bool, if◌then◌else◌, List, Option, Some, None, is_some, nat_lt, not}
use Rattle.ec_cluster.specs.Cluster.{CodeWorld}
use Rattle.ec_code.specs.Typing.{Declared}
use Rattle.ec_network.specs.Acts.{FoundFull}
use Rattle.ec_network.specs.Showing.{MovedGroup, NoMove}
use Rattle.ec_network.specs.Standing.{Stands}
use Rattle.ec_network.specs.declared.nodes_running.turns.Did.{Did}
use Rattle.ec_network.specs.declared.nodes_running.turns.Did.TheVariants.{Idle, Acted, Moved}
use Rattle.ec_network.specs.declared.nodes_running.turns.NetError.{NetError}
use Rattle.ec_network.specs.declared.nodes_running.turns.NetError.TheVariants.{Full, Memory}
use Rattle.ec_cluster.specs.declared.system.System.{System}
use Rattle.ec_world.specs.Doings.{any_fixed}
use Rattle.ec_world.specs.Group.{group_of}
use Rattle.ec_world.specs.Moves.{OperatorMove, is_idle_move}
use Rattle.ec_world.specs.Sights.{Sight}
use Rattle.ec_world.specs.declared.common.Common.{Common}

-- ---- whom it moves

-- as a reader sees: the object or the node is not there, or a member of the object's group is fixed
abbrev pub is_idle_seen : Sight → ℕ → ℕ → Bool
is_idle_seen s o k = not (is_some (s.class o)) || (not (nat_lt k s.nodes) || any_fixed s (s.group o))

-- the members of the group, where the move is not idle, as a reader sees them
abbrev pub members_seen : Sight → ℕ → ℕ → Option (List ℕ)
members_seen s o k = if is_idle_seen s o k then None else Some (s.group o)

-- and as they are
abbrev pub members_moved : Common → ℕ → ℕ → Option (List ℕ)
members_moved c o k = if is_idle_move c o k then None else Some (group_of c o)

-- ---- what it comes to

-- The group has moved, and the system stands in the world after the move.
pub record MovedTo (d : Declared) (old new : System) (w : CodeWorld) (o k : ℕ) : Type 0 where
  pub moved : MovedGroup old new w o k
  pub stands : Stands d new (OperatorMove w o k)

abbrev pub MovedIn : Declared → System → System → CodeWorld → ℕ → ℕ → Did → Type 0
MovedIn d old new w o k Idle = NoMove old new w o k
MovedIn d old new w o k (Acted steps) = ⊥
MovedIn d old new w o k Moved = MovedTo d old new w o k

abbrev pub MoveRefusedIn : System → System → CodeWorld → ℕ → ℕ → NetError → Type 0
MoveRefusedIn old new w o k (Full lack) = FoundFull old new w (OperatorMove w o k) lack
MoveRefusedIn old new w o k (Memory e) = Unit {0}
