-- What moves in runs of a source by its meaning.
use Rattle.std.specs.Prelude.{ℕ, List}
use Rattle.ec_meaning.specs.Activations.{source_meaning}
use Rattle.ec_meaning.specs.Meaning.{source_silent, source_start}
use Rattle.ec_meaning.specs.Programs.{Source}
use Rattle.ec_moving.specs.Placed.{IsOnNodes, KeepsPlaces}
use Rattle.ec_world.specs.Run.{after_entries}
use Rattle.ec_world.specs.declared.run.RunEntry.{RunEntry}

-- The silent steps of each source make no object and move none.
abbrev pub SourceKeepsPlaces : Type 0
SourceKeepsPlaces = (s : Source) → KeepsPlaces (source_silent s)

-- In each world of each run on n nodes, their objects are fixed at them.
abbrev pub NodesStayInSourceRuns : Type 0
NodesStayInSourceRuns =
    (s : Source) (n : ℕ) (entries : List RunEntry) →
    IsOnNodes n (after_entries source_meaning (source_silent s) (source_start s n) entries).common
