-- What holds of each frame.
use Rattle.std.specs.Prelude.{◌≡◌, ℕ, ◌≤◌, List, Some, slice_get}
use Rattle.ec_activations.specs.Frames.{frame_thing}
use Rattle.ec_code.specs.Fine.{Fine}
use Rattle.ec_code.specs.Typing.{Declared}
use Rattle.ec_code.specs.declared.activation.CodeActivation.{CodeActivation}
use Rattle.ec_code.specs.declared.code.Parts.{Parts}
use Rattle.ec_machine_code.specs.Limits.{HasLimits}
use Rattle.ec_machine_code.specs.Frames.{slots}
use Rattle.ec_machine_code.specs.declared.homes.Home.{Home}
use Rattle.ec_generate.specs.Tables.{AreTablesOf, all_homes}
use Rattle.ec_generate.specs.declared.table.OperationTable.{OperationTable}
use Rattle.ec_world.specs.declared.node.Kind.{Kind}
use Rattle.ec_world.specs.declared.value.Value.{Value}

-- Which values a frame holds, and in which order, depends on no kind of machine.
abbrev pub ValuesAreOfNoKind : Type 0
ValuesAreOfNoKind =
    (p : Parts) (homes homes' : Kind → List (List Home)) (process depth : ℕ) (a : CodeActivation) →
    (frame_thing p homes process depth a).values ≡ (frame_thing p homes' process depth a).values

-- The homes of a well typed program within its limits on a kind that has at most 20 registers for them, as many as a frame has words to
-- save them in.
pub record AreHomesOf (d : Declared) (p : Parts) (kind : Kind) (homes : Kind → List (List Home)) : Type 0 where
  pub fine : Fine d p
  pub limits : HasLimits p
  pub registers : ℕ
  pub few : registers ≤ 20
  pub tables : List OperationTable
  pub are : AreTablesOf registers slots p tables
  pub homes_are : homes kind ≡ all_homes tables

-- Each value has a word of the frame, behind the headings, or as the reference to the own object.
abbrev pub EachValueHasAWord : Type 0
EachValueHasAWord =
    (d : Declared) (p : Parts) (kind : Kind) (homes : Kind → List (List Home)) (process depth : ℕ) (a : CodeActivation) (i : ℕ)
    (v : Value) →
    AreHomesOf d p kind homes →
    slice_get (frame_thing p homes process depth a).values i ≡ Some v →
    (at : ℕ) × ((frame_thing p homes process depth a).spot kind i ≡ Some at) × (6 ≤ at)

-- Values that have one word are one value: so words can be written one after another.
abbrev pub OneWordOneValue : Type 0
OneWordOneValue =
    (d : Declared) (p : Parts) (kind : Kind) (homes : Kind → List (List Home)) (process depth : ℕ) (a : CodeActivation)
    (i j at : ℕ) (v u : Value) →
    AreHomesOf d p kind homes →
    slice_get (frame_thing p homes process depth a).values i ≡ Some v →
    slice_get (frame_thing p homes process depth a).values j ≡ Some u →
    (frame_thing p homes process depth a).spot kind i ≡ Some at →
    (frame_thing p homes process depth a).spot kind j ≡ Some at →
    v ≡ u
