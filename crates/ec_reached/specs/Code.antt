-- Reached worlds of three-address code.
use Rattle.std.specs.Prelude.{◌≡◌, ℕ, suc, true, false, List, [], ◌∷◌}
use Rattle.ec_code.specs.Activations.{code_meaning, code_silent}
use Rattle.ec_code.specs.SoundLaws.{world_after}
use Rattle.ec_code.specs.declared.code.Line.{Line}
use Rattle.ec_code.specs.declared.code.Op.{Op}
use Rattle.ec_code.specs.declared.code.Op.TheVariants as op
use Rattle.ec_code.specs.declared.code.Operation.{Operation}
use Rattle.ec_code.specs.declared.code.Parts.{Parts}
use Rattle.ec_world.specs.declared.class.ClassRec.{ClassRec}
use Rattle.ec_world.specs.declared.run.RunEntry.{RunEntry}
use Rattle.ec_world.specs.declared.stop.Stop.{Stop}
use Rattle.ec_reached.specs.Laws.{EntriesKeepOrder, MonitorsKeep}
use Rattle.ec_reached.specs.Meant.{IsNotCalled, StaysItself, StepsStay, StepsStop, is_end, is_entry}
use Rattle.ec_reached.specs.Orderly.{Orderly}
use Rattle.ec_reached.specs.Stacks.{BlockedRest, StacksFit}

module _ (classes : List ClassRec) where
  -- A stop behind the first line of an operation is no entry, and an end only where no class has the operation for a call.
  pub record StopFits (operation : ℕ) (stop : Stop) : Type 0 where
    pub no_entry : is_entry stop ≡ false
    pub ends : is_end stop ≡ true → IsNotCalled classes operation

  abbrev pub OpFits : ℕ → Op → Type 0
  OpFits operation (op.Rest row) = StopFits operation row.stop
  OpFits operation _ = Unit {0}

  abbrev pub LinesFit : ℕ → List Line → Type 0
  LinesFit operation [] = Unit {0}
  LinesFit operation (line ∷ rest) = OpFits operation line.op × LinesFit operation rest

  -- the lines behind the first
  abbrev pub CodeFits : ℕ → List Line → Type 0
  CodeFits operation [] = Unit {0}
  CodeFits operation (line ∷ rest) = LinesFit operation rest

  -- the operations from a number on
  abbrev pub OperationsFit : ℕ → List Operation → Type 0
  OperationsFit n [] = Unit {0}
  OperationsFit n (o ∷ os) = CodeFits n o.code × OperationsFit (suc n) os

-- Each operation enters at its first line alone, and ends its process only where no class has it for a call.
abbrev pub StopsFit : Parts → Type 0
StopsFit p = OperationsFit p.classes 0 p.operations

-- ---- laws

-- Activations of code stay what they are, and so do silent steps what they are to leave alone.
pub record CodeStays (p : Parts) : Type 0 where
  pub itself : StaysItself code_meaning
  pub steps : StepsStay code_meaning (code_silent p)

abbrev pub EachCodeStays : Type 0
EachCodeStays = (p : Parts) → CodeStays p

-- So in each world of each run of code stacks are calls, blocked processes rest where their statuses tell, and monitors fit.
pub record CodeKeeps (p : Parts) (n : ℕ) (entries : List RunEntry) : Type 0 where
  pub stacks : StacksFit code_meaning (world_after p n entries)
  pub rest : BlockedRest code_meaning (world_after p n entries)
  pub monitors : MonitorsKeep (world_after p n entries)

abbrev pub EachRunOfCodeKeeps : Type 0
EachRunOfCodeKeeps = (p : Parts) (n : ℕ) (entries : List RunEntry) → CodeKeeps p n entries

-- Where each operation enters at its first line alone, silent steps stop as is asked of them.
abbrev pub EachCodeStops : Type 0
EachCodeStops = (p : Parts) → StopsFit p → StepsStop code_meaning (code_silent p) p.classes

-- So entries keep worlds of such code orderly, and each world of each of its runs is.
abbrev pub EntriesOfCodeKeepOrder : Type 0
EntriesOfCodeKeepOrder = (p : Parts) → StopsFit p → EntriesKeepOrder code_meaning (code_silent p) p.classes

abbrev pub EachRunOfCodeIsOrderly : Type 0
EachRunOfCodeIsOrderly =
    (p : Parts) → StopsFit p → (n : ℕ) (entries : List RunEntry) → Orderly code_meaning p.classes (world_after p n entries)
