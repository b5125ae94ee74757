-- Room along a run of three-address code: which texts a pool has after so many entries, and when the next entry finds no room.
use Rattle.std.specs.Prelude.{ℕ, zero, suc, ◌<◌, ◌⊎◌, List, length, Option, Some, None}
use Rattle.ec_cluster.specs.Cluster.{CodeWorld}
use Rattle.ec_code.specs.Activations.{code_meaning, code_silent}
use Rattle.ec_code.specs.declared.activation.CodeActivation.{CodeActivation}
use Rattle.ec_code.specs.declared.code.Parts.{Parts}
use Rattle.ec_acts.specs.Worlds.{world_first}
use Rattle.ec_world.specs.declared.room.Part.{Part}
use Rattle.ec_rooms.specs.Rooms.{FullAt, Literals, Strings, held}
use Rattle.ec_world.specs.Moves.{OperatorMove}
use Rattle.ec_world.specs.Run.{RunState, next_entry, run_after, statuses_of}
use Rattle.ec_world.specs.World.{Action}
use Rattle.ec_world.specs.declared.node.NodeSpec.{NodeSpec}
use Rattle.ec_world.specs.declared.run.Entry.{Entry}
use Rattle.ec_world.specs.declared.run.RunEntry.{RunEntry}
use Rattle.ec_world.specs.declared.run.RunEntry.TheVariants.{TurnOf, MoveOf}

-- the run of code on n nodes along a schedule, after so many entries
abbrev pub code_run : Parts → ℕ → List Entry → ℕ → RunState CodeActivation
code_run p n schedule k = run_after code_meaning (code_silent p) (world_first n p) schedule k

-- the world after the action of an entry: of a turn before the code behind the stop, and of a move after it
abbrev pub after_action : CodeWorld → RunEntry → CodeWorld
after_action w (TurnOf p) = Action code_meaning w p
after_action w (MoveOf o k) = OperatorMove w o k

abbrev pub action_if : CodeWorld → Option RunEntry → CodeWorld
action_if w None = w
action_if w (Some e) = after_action w e

-- the world after the action of the entry that follows k entries
abbrev pub next_action : Parts → ℕ → List Entry → ℕ → CodeWorld
next_action p n schedule k =
    let s = code_run p n schedule k in
    action_if s.world (next_entry s.left (statuses_of s.world) s.last)

-- the texts of the pool of a node after k entries: the literals, and the texts of the world after each action
unfoldable pub PoolAfter : Parts → ℕ → List Entry → ℕ → ℕ → List ℕ → Type 0
PoolAfter p n schedule zero node text = Literals p node text
PoolAfter p n schedule (suc k) node text = PoolAfter p n schedule k node text ⊎ Strings p (next_action p n schedule k) node text

-- the entry that follows k entries finds no room at a node
abbrev pub NextFull : Parts → List NodeSpec → List Entry → ℕ → ℕ → Part → ℕ → ℕ → Type 0
NextFull p specs schedule k =
    let n = length specs in
    FullAt specs (held p (code_run p n schedule k).world) (held p (next_action p n schedule k)) (PoolAfter p n schedule k)
    (Strings p (next_action p n schedule k))

-- no entry before the k-th found a node full
abbrev pub NoneFullBefore : Parts → List NodeSpec → List Entry → ℕ → Type 0
NoneFullBefore p specs schedule k = (j : ℕ) → j < k → (node need free : ℕ) (part : Part) →
    NextFull p specs schedule j node part need free → ⊥
