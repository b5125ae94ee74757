-- What moves in runs of three-address code.
use Rattle.std.specs.Prelude.{ℕ, List}
use Rattle.ec_code.specs.Activations.{code_silent}
use Rattle.ec_code.specs.SoundLaws.{world_after}
use Rattle.ec_code.specs.declared.code.Parts.{Parts}
use Rattle.ec_moving.specs.Placed.{IsOnNodes, KeepsPlaces}
use Rattle.ec_world.specs.declared.run.RunEntry.{RunEntry}

-- The silent steps of each program make no object and move none.
abbrev pub CodeKeepsPlaces : Type 0
CodeKeepsPlaces = (p : Parts) → KeepsPlaces (code_silent p)

-- In each world of each run on n nodes, their objects are fixed at them.
abbrev pub NodesStayInRuns : Type 0
NodesStayInRuns = (p : Parts) (n : ℕ) (entries : List RunEntry) → IsOnNodes n (world_after p n entries).common
