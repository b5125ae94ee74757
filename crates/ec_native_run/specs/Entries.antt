-- Entries of a run that nodes do by their own code.
use Rattle.std.specs.Prelude.{◌≡◌, ℕ, List, [], ◌∷◌, length, Some}
use Rattle.ec_cluster.specs.Cluster.{CodeWorld}
use Rattle.ec_cluster.specs.declared.cluster.Images.{Images}
use Rattle.ec_code.specs.Activations.{code_meaning, code_silent}
use Rattle.ec_code.specs.Typing.{Declared}
use Rattle.ec_code.specs.declared.code.Parts.{Parts}
use Rattle.ec_acts.specs.Loaded.{Loaded}
use Rattle.ec_acts.specs.Worlds.{world_first}
use Rattle.ec_network.specs.Nets.{AreCode, Net, numbers_of, system_of}
use Rattle.ec_network.specs.Showing.{MovedGroup, NoMove, NoTurn, TookTurn}
use Rattle.ec_cluster.specs.declared.system.System.{System}
use Rattle.ec_parcels.specs.Vectors.{table_of}
use Rattle.ec_world.specs.Run.{after_entry}
use Rattle.ec_world.specs.declared.class.VectorType.{VectorType}
use Rattle.ec_world.specs.declared.node.NodeSpec.{NodeSpec}
use Rattle.ec_world.specs.declared.run.RunEntry.{RunEntry}
use Rattle.ec_world.specs.declared.run.RunEntry.TheVariants as entry

-- What an entry does on nodes that show a world, in four cases. A turn is the action of the stop at which a process rests, and then so many
-- instructions of the node's own code up to the next stop; or nothing, where the process has nothing to do. A move by the operator brings
-- a group to a node; or nothing changes, where the move is idle.
pub data EntryOf (old new : System) (w : CodeWorld) : RunEntry → Type 0 where
  Turns : (p steps : ℕ) → TookTurn old new w p steps → EntryOf old new w (entry.TurnOf p)
  Rests : (p : ℕ) → NoTurn old new w p → EntryOf old new w (entry.TurnOf p)
  Moves : (o k : ℕ) → MovedGroup old new w o k → EntryOf old new w (entry.MoveOf o k)
  Stays : (o k : ℕ) → NoMove old new w o k → EntryOf old new w (entry.MoveOf o k)

-- Entries lead from nodes that show a world of a program to others, one entry after the other.
unfoldable pub Along : Parts → System → CodeWorld → List RunEntry → System → Type 0
Along p s w [] t = t ≡ s
Along p s w (e ∷ es) t = (m : System) × EntryOf s m w e × Along p m (after_entry code_meaning (code_silent p) w e) es t

-- The network has done these entries of a program: nodes of these kinds and sizes began with the program and its machine code for each
-- kind, and from there the entries have led to what the network is. In parcels its classes have the numbers that they have where these
-- vector types are written.
pub record HasDone (p : Parts) (written : List VectorType) (specs : List NodeSpec) (entries : List RunEntry) (net : Net) : Type 0 where
  pub declared : Declared
  pub images : Images
  pub code : AreCode declared p images
  pub start : System
  pub loaded : Loaded p images specs start
  pub now : System
  pub is : system_of net ≡ Some now
  pub numbers : numbers_of net ≡ Some (table_of p written)
  pub along : Along p start (world_first (length specs) p) entries now
