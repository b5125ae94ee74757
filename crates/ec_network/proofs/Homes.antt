-- The object of each node is at it, in the first world and after each entry.
use Rattle.std.proofs.Common.{ℕ, map, refl}
use Rattle.ec_acts.specs.Worlds.{world_first}
use Rattle.ec_cluster.specs.Cluster.{CodeWorld}
use Rattle.ec_code.specs.Activations.{code_meaning, code_silent}
use Rattle.ec_code.specs.Typing.{kind_of}
use Rattle.ec_code.specs.declared.code.Parts.{Parts}
use Rattle.ec_moving.proofs.Silent.{code_keeps_places}
use Rattle.ec_moving.proofs.Worlds.{entries_keep}
use Rattle.ec_moving.specs.Moving.{EntriesKeepNodes}
use Rattle.ec_moving.specs.Placed.{IsOnNodes, IsPlaced}
use Rattle.ec_world.specs.Moves.{OperatorMove}
use Rattle.ec_world.specs.World.{Turn}
use Rattle.ec_world.specs.declared.common.Common.{Common}
use Rattle.ec_world.specs.declared.run.RunEntry.TheVariants.{TurnOf}

entries : EntriesKeepNodes code_meaning
entries = entries_keep code_meaning

on_own : (c : Common) → IsPlaced c → IsOnNodes c.nodes c
on_own c h = record { count = refl; placed = h }

pub first_placed : (n : ℕ) (p : Parts) → IsPlaced (world_first n p).common
first_placed n p = (entries.at_first n p.classes (map kind_of p.constants)).placed

pub turn_placed : (p : Parts) (w : CodeWorld) (n : ℕ) → IsPlaced w.common → IsPlaced (Turn code_meaning (code_silent p) w n).common
turn_placed p w n h =
    (entries.by_entry (code_silent p) w.common.nodes w (TurnOf n) (code_keeps_places p) (on_own w.common h)).placed

pub move_placed : (w : CodeWorld) (o k : ℕ) → IsPlaced w.common → IsPlaced (OperatorMove w o k).common
move_placed w o k h = (entries.by_move w.common.nodes w o k (on_own w.common h)).placed
