-- What faithful code is asked to go on from can be met: at each stop of each program that is laid out some activation, state and memory
-- fit one another.
use Rattle.std.specs.Prelude.{◌≡◌, ℕ, suc, ◌+◌, ◌<◌, ◌≤◌, ◌^◌, false, List, [], ◌∷◌, length, Option, Some, slice_get, pos}
use Rattle.ec_base.specs.Bytes.{Bytes}
use Rattle.ec_code.specs.Activations.{machine_behind, operation_at}
use Rattle.ec_code.specs.Fine.{Has, live_at}
use Rattle.ec_code.specs.Steps.{variable_at}
use Rattle.ec_code.specs.Typing.{Declared, field_types, kind_of}
use Rattle.ec_code.specs.declared.activation.CodeActivation.{CodeActivation}
use Rattle.ec_code.specs.declared.code.Operation.{Operation}
use Rattle.ec_code.specs.declared.code.Parts.{Parts}
use Rattle.ec_code.specs.declared.code.Variable.{Variable}
use Rattle.ec_types.specs.declared.conform.static_type.StaticType.{StaticType}
use Rattle.ec_machine_code.specs.Faithful.{homes_of}
use Rattle.ec_machine_code.specs.Frames.{block_words}
use Rattle.ec_machine_code.specs.Machine.{MachineMeaning}
use Rattle.ec_machine_code.specs.Standing.{AreTables, Fits, HasWhatIsSet}
use Rattle.ec_machine_code.specs.Stops.{IsStopAt, stop_places}
use Rattle.ec_machine_code.specs.declared.code.Code.{Code}
use Rattle.ec_machine_code.specs.declared.homes.Home.{Home}
use Rattle.ec_machine_code.specs.Fitting.{CanBeLaidOut}
use Rattle.ec_machine_code.specs.Layout.{Vocabularies, code_of}
use Rattle.ec_world.specs.declared.class.ClassNo.{ClassNo}
use Rattle.ec_world.specs.declared.common.Common.{Common}
use Rattle.ec_world.specs.declared.value.Value.{Value}
use Rattle.ec_world.specs.declared.value.Value.TheVariants.{Int, Str, Nil, Bool as Truth}
use Rattle.ec_world.specs.declared.value.ValueType.{ValueType}
use Rattle.ec_world.specs.declared.value.ValueType.TheVariants.{Integer, Boolean, Bytes as Text, Reference}

-- the text that word 0 stands for
abbrev pub first_text : List (List ℕ) → List ℕ
first_text [] = []
first_text (t ∷ ts) = t

-- the value of a kind that word 0 stands for
abbrev pub value_of_zero : List (List ℕ) → ValueType → Value
value_of_zero literals Integer = Int (pos 0)
value_of_zero literals Boolean = Truth false
value_of_zero literals Text = Str (first_text literals)
value_of_zero literals Reference = Nil

-- A machine of the kind can rest at any place, with any words in its base registers and its homes.
pub record RestsWith {S : Type 0} (M : MachineMeaning S) (place frame own : ℕ) (held : ℕ → ℕ) : Type 0 where
  pub state : S
  pub rests : M.rests state
  pub at : M.place state ≡ place
  pub frame_is : M.register state M.frame_base ≡ frame
  pub own_is : M.register state M.own_base ≡ own
  pub homes : (k : ℕ) → k < M.homes → M.register state (M.first_home + k) ≡ held k

abbrev pub CanRest : {S : Type 0} → MachineMeaning S → Type 0
CanRest M =
    (place frame own : ℕ) (held : ℕ → ℕ) → place < 2 ^ 32 → frame < 2 ^ 32 → own < 2 ^ 32 → ((k : ℕ) → held k < 2 ^ 32) →
    RestsWith M place frame own held

-- The literals of a program are different texts, with places of 32 bits; its constants have room; and an object has one block.
pub record HasFew (d : Declared) (p : Parts) : Type 0 where
  pub literals : (i j : ℕ) (t : List ℕ) → slice_get p.literals i ≡ Some t → slice_get p.literals j ≡ Some t → i ≡ j
  pub few_literals : length p.literals < 2 ^ 32
  pub few_constants : length p.constants ≤ 2 ^ 20
  pub few_fields : (class : ClassNo) → length (field_types d class) ≤ block_words

-- an activation just behind a stop of operation n at a place, and a state that fits it; each live variable is of a type as which it is
-- live
pub record FitAt {S : Type 0} (M : MachineMeaning S) (p : Parts) (code : Code) (homes : List (List Home)) (n place : ℕ) (o : Operation) :
    Type 0 where
  pub local : ℕ → Option ℕ
  pub text : ℕ → Option (List ℕ)
  pub tables : AreTables p local text
  pub activation : CodeActivation
  pub is_operation : activation.operation ≡ n
  pub is_at : activation.at ≡ place
  pub common : Common
  pub address : ℕ
  pub frame : ℕ
  pub own : ℕ
  pub state : S
  pub bytes : Bytes
  pub stop : IsStopAt p code n place address
  pub behind : M.place state ≡ address + 4
  pub has : HasWhatIsSet o activation.own (machine_behind p common activation)
  pub fits :
      Fits M local text (homes_of homes n o) (live_at o.code (suc place)) frame own activation.own (machine_behind p common activation)
      state bytes
  pub typed :
      (x : Variable) (t : StaticType) → Has (live_at o.code (suc place)) x t →
      (s : StaticType) × Has (live_at o.code (suc place)) x s
      × (variable_at (machine_behind p common activation) x ≡ Some (value_of_zero p.literals (kind_of s)))

-- Behind each stop there is such a one.
abbrev pub EachStopHasAFit : {S : Type 0} → MachineMeaning S → Type 0
EachStopHasAFit M =
    (vs : Vocabularies) (homes : List (List Home)) (orders : List (List ℕ)) (d : Declared) (p : Parts) →
    CanBeLaidOut M vs homes orders d p → CanRest M → HasFew d p →
    (n k q : ℕ) (o : Operation) → operation_at p n ≡ Some o → slice_get (stop_places o.code) k ≡ Some q →
    FitAt M p (code_of vs homes orders p.operations) homes n q o
