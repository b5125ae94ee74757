-- When nodes with the rows of processes show a world of three-address code, and what else holds of them between entries.
use Rattle.std.specs.Prelude.{◌≡◌, ◌≤◌, ℕ, List, length, map}
use Rattle.ec_cluster.specs.Cluster.{CodeWorld, Shows, frame_of, place}
use Rattle.ec_cluster.specs.declared.cluster.Cluster.{Cluster}
use Rattle.ec_cluster.specs.Frames.{HasImages}
use Rattle.ec_code.specs.Fine.{Fine}
use Rattle.ec_code.specs.Typing.{Declared}
use Rattle.ec_code.specs.declared.activation.CodeActivation.{CodeActivation}
use Rattle.ec_cluster.specs.Whereabouts.{made_count}
use Rattle.ec_code.specs.Worlds.{RangedWorld, most_nodes}
use Rattle.ec_code.specs.Sound.{SoundWorld}
use Rattle.ec_cluster.specs.declared.system.ProcessRow.{ProcessRow}
use Rattle.ec_cluster.specs.declared.system.System.{System}
use Rattle.ec_things.specs.Texts.{TextsHeld}
use Rattle.ec_things.specs.Things.{things_of}
use Rattle.ec_world.specs.declared.process.Proc.{Proc}

-- the row of a process
abbrev pub row_of : Proc CodeActivation → ProcessRow
row_of q = record { activations = length q.activations; status = q.status }

-- A system shows a world: its nodes show the objects, the constants and the activations, its rows the processes, and it has written the
-- world's output. Its program has the world's classes and as many constants, and as many objects were noted.
pub record Mirrors (s : System) (w : CodeWorld) : Type 0 where
  pub shows : Shows s.cluster w
  pub rows : s.processes ≡ map row_of w.processes
  pub output : s.output ≡ w.common.output
  pub nodes : w.common.nodes ≡ length s.cluster.nodes
  pub classes : w.common.classes ≡ s.cluster.parts.classes
  pub objects : length w.common.objects ≡ made_count s.cluster.whereabouts
  pub constants : length w.common.globals ≡ length s.cluster.parts.constants

-- What never changes: the program is well typed, the images are its own on each kind, and there are at most 64 nodes.
pub record Steady (d : Declared) (c : Cluster) : Type 0 where
  pub fine : Fine d c.parts
  pub images : HasImages d c
  pub few_nodes : length c.nodes ≤ most_nodes

-- A system runs a world: it shows it, and each value of the world is of the type of its place, and in range.
pub record Runs (d : Declared) (s : System) (w : CodeWorld) : Type 0 where
  pub mirrors : Mirrors s w
  pub steady : Steady d s.cluster
  pub sound : SoundWorld d s.cluster.parts w
  pub ranged : RangedWorld w

-- some world
abbrev pub RunsSome : System → Type 0
RunsSome s = (d : Declared) × ((w : CodeWorld) × Runs d s w)

-- the texts that a world has at a node: in objects and activations there, and in constants
abbrev pub Strings : Cluster → CodeWorld → ℕ → List ℕ → Type 0
Strings c w = TextsHeld (things_of (frame_of c) w) w.common.globals (place c)
