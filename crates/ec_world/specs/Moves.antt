-- A move by the operator: an event, or nothing.
use Rattle.std.specs.Prelude.{ℕ, suc, Bool, true, false, ◌||◌, not, [], ◌∷◌, ◌++◌, Option, Some, None, nat_lt}
use Rattle.ec_world.specs.declared.event.Event.TheVariants.{Moved}
use Rattle.ec_world.specs.declared.object.ObjectRec.{ObjectRec}
use Rattle.ec_world.specs.declared.common.Common.{Common}
use Rattle.ec_world.specs.declared.world.World.{World}
use Rattle.ec_world.specs.Objects.{object_at}
use Rattle.ec_world.specs.Group.{group_of, any_fixed}

abbrev pub is_there : Option ObjectRec → Bool
is_there None = false
is_there (Some o) = true

-- the object or the node isn't there, or a member of the object's group is fixed
abbrev pub is_idle_move : Common → ℕ → ℕ → Bool
is_idle_move c o k = not (is_there (object_at c.objects o)) || (not (nat_lt k c.nodes) || any_fixed c (group_of c o))

abbrev pub moved_common : Common → ℕ → ℕ → Common
moved_common c o k = record c { events = c.events ++ Moved (group_of c o) (suc k) ∷ [] }

abbrev pub moved_unless : Common → ℕ → ℕ → Bool → Common
moved_unless c o k true = c
moved_unless c o k false = moved_common c o k

-- the group of object o goes where node k's object is
abbrev pub OperatorMove : {A : Type 0} → World A → ℕ → ℕ → World A
OperatorMove w o k = record w { common = moved_unless w.common o k (is_idle_move w.common o k) }
