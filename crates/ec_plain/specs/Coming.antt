-- The worlds to which a plain run comes.
use Rattle.std.specs.Prelude.{◌≡◌, ℕ, List}
use Rattle.ec_report.specs.Comes.{Comes}
use Rattle.ec_report.specs.Progress.{Progress}
use Rattle.ec_meaning.specs.Activations.{source_meaning}
use Rattle.ec_meaning.specs.Meaning.{source_silent, source_start}
use Rattle.ec_meaning.specs.Programs.{Source}
use Rattle.ec_meaning.specs.Sources.{source_of}
use Rattle.ec_meaning.specs.declared.activation.SourceActivation.{SourceActivation}
use Rattle.ec_meaning.specs.declared.meaning.Meaning.{Meaning}
use Rattle.ec_world.specs.declared.room.Part.{Part}
use Rattle.ec_world.specs.declared.process.ProcStatus.{ProcStatus}
use Rattle.ec_world.specs.declared.run.Entry.{Entry}
use Rattle.ec_world.specs.declared.world.World.{World}

-- the run of a source on n nodes comes to a world
abbrev pub SourceComes : (s : Source) (n : ℕ) (schedule : List Entry) (budget : ℕ) → List ProcStatus → Progress →
    World SourceActivation → Type 0
SourceComes s n schedule budget statuses progress v =
    Comes source_meaning (source_silent s) (source_start s n) schedule budget statuses progress v

-- the run of a meaning's source on its nodes comes to its world
abbrev pub MeaningComes : Meaning → List Entry → ℕ → List ProcStatus → Progress → Meaning → Type 0
MeaningComes start schedule budget statuses progress m =
    (m.program ≡ start.program) × SourceComes (source_of start.program) start.world.common.nodes schedule budget statuses progress m.world

-- no node is full where there are no nodes
abbrev pub NeverFull : Meaning → List Entry → ℕ → ℕ → Part → ℕ → ℕ → Type 0
NeverFull start schedule k node part need free = ⊥
