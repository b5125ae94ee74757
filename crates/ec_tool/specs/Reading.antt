-- What the files of a call hold, and what is said where a read failed.
use Rattle.std.specs.Prelude.{◌≡◌, ℕ, List, Option, Some}
use Rattle.ec_tool.specs.Asked.{file_limit}
use Rattle.ec_tool.specs.declared.file.FileOf.{FileOf}
use Rattle.ec_tool.specs.declared.file.FileOf.TheVariants.{Source, Nodes, Schedule}
use Rattle.ec_inputs.specs.Words.{RunWords, CommandWords, WordsOf}
use Rattle.ec_outside.specs.Whole.{IsWhole}
use Rattle.ec_tool.specs.declared.files.Files.{Files}
use Rattle.ec_tool.specs.declared.files.Unread.{Unread}
use Rattle.ec_tool.specs.declared.files.Unread.TheVariants.{Failed, Memory}

-- what the files hold
abbrev pub held_in : Files → FileOf → List ℕ
held_in files Source = files.source.items
held_in files Nodes = files.nodes.items
held_in files Schedule = files.schedule.items

-- of a check only the source is read
abbrev pub only : List ℕ → FileOf → List ℕ
only source file = source

-- the three files of a run or a plain meaning were read whole
pub record AreAllRead (content : List ℕ → Option (List ℕ)) (words : RunWords) (held : FileOf → List ℕ) : Type 0 where
  pub source_is : IsWhole (content words.source) file_limit (held Source)
  pub nodes_are : IsWhole (content words.nodes) file_limit (held Nodes)
  pub schedule_is : IsWhole (content words.schedule) file_limit (held Schedule)

-- what is said where a read met a fault
abbrev pub WhenFailed : Unread → (FileOf → Type 0) → Type 0
WhenFailed (Failed file) P = P file
WhenFailed Memory P = Unit {0}

-- so it is for all words that ask for this command
abbrev pub WhereAsked : CommandWords → (List (List ℕ) → Type 0) → Type 0
WhereAsked asked P = (words : List (List ℕ)) → WordsOf words ≡ Some asked → P words
