-- Reached worlds of a source, by its meaning.
use Rattle.std.specs.Prelude.{ℕ, List}
use Rattle.ec_meaning.specs.Activations.{source_meaning}
use Rattle.ec_meaning.specs.Meaning.{source_silent, source_start}
use Rattle.ec_meaning.specs.Programs.{Source}
use Rattle.ec_world.specs.Run.{after_entries}
use Rattle.ec_world.specs.declared.run.RunEntry.{RunEntry}
use Rattle.ec_reached.specs.Laws.{MonitorsKeep}
use Rattle.ec_reached.specs.Meant.{StaysItself, StepsStay}
use Rattle.ec_reached.specs.Stacks.{BlockedRest, StacksFit}

-- Activations of a source stay what they are, and so do silent steps what they are to leave alone.
pub record SourceStays (s : Source) : Type 0 where
  pub itself : StaysItself source_meaning
  pub steps : StepsStay source_meaning (source_silent s)

abbrev pub EachSourceStays : Type 0
EachSourceStays = (s : Source) → SourceStays s

-- So in each world of each run of a source stacks are calls, blocked processes rest where their statuses tell, and monitors fit.
pub record SourceKeeps (s : Source) (n : ℕ) (entries : List RunEntry) : Type 0 where
  pub stacks : StacksFit source_meaning (after_entries source_meaning (source_silent s) (source_start s n) entries)
  pub rest : BlockedRest source_meaning (after_entries source_meaning (source_silent s) (source_start s n) entries)
  pub monitors : MonitorsKeep (after_entries source_meaning (source_silent s) (source_start s n) entries)

abbrev pub EachRunOfASourceKeeps : Type 0
EachRunOfASourceKeeps = (s : Source) (n : ℕ) (entries : List RunEntry) → SourceKeeps s n entries
