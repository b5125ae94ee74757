-- When machine code does what three-address code does between stops (Steensgaard and Jul 1995: bus stops).
use Rattle.std.specs.Prelude.{◌≡◌, ℕ, suc, ◌+◌, ◌*◌, ◌<◌, ◌≤◌, List, length, drop, Option, Some, None, slice_get}
use Rattle.ec_base.specs.Bytes.{Bytes}
use Rattle.ec_code.specs.Activations.{Arrived, machine_behind, operation_at, walk}
use Rattle.ec_code.specs.Fine.{Has, IsIn, live_at}
use Rattle.ec_code.specs.Steps.{Machine}
use Rattle.ec_code.specs.declared.activation.CodeActivation.{CodeActivation}
use Rattle.ec_code.specs.declared.code.Operation.{Operation}
use Rattle.ec_code.specs.declared.code.Parts.{Parts}
use Rattle.ec_code.specs.declared.code.StopRow.{StopRow}
use Rattle.ec_code.specs.declared.code.Variable.{Variable}
use Rattle.ec_types.specs.declared.conform.static_type.StaticType.{StaticType}
use Rattle.ec_machine_code.specs.Machine.{MachineMeaning}
use Rattle.ec_machine_code.specs.Standing.{AreTables, FieldsStand, Fits, HasWhatIsSet, IsBeside, Lives}
use Rattle.ec_machine_code.specs.Stops.{IsStopAt, address_of, home_in, live_list, stop_at, stop_places, words_before, words_in_all, words_of}
use Rattle.ec_machine_code.specs.declared.code.Code.{Code}
use Rattle.ec_machine_code.specs.declared.homes.Home.{Home}
use Rattle.ec_target.specs.Code.{pc_of, word_at}
use Rattle.ec_target.specs.Runs.{Native}
use Rattle.ec_world.specs.declared.common.Common.{Common}

-- the machine of three-address code at a stop that is reached
abbrev pub machine_at : Common → Arrived → Machine
machine_at c r = record { common = c; variables = r.variables; temporaries = r.temporaries }

-- the homes of an operation's variables, by those of each operation
abbrev pub homes_of : List (List Home) → ℕ → Operation → Variable → Option Home
homes_of homes op o x = home_in homes op (length o.variables) x

-- what may be said of where code leads from a state, at a stop of an activation
abbrev pub Reaching : Type 0 → Type 1
Reaching S =
    (local : ℕ → Option ℕ) (text : ℕ → Option (List ℕ)) (op : ℕ) (o : Operation) (f own self : ℕ) (before : Machine) (c : Common)
    (r : Arrived) (s : S) (bytes : Bytes) → Type 0

module _ {S : Type 0} (M : MachineMeaning S) (p : Parts) (code : Code) (homes : List (List Home)) where
  -- The code leads in few steps from a state to the stop at which silent steps arrive. The stop's operands and all that is live
  -- there stand at their homes, and so does each own field; nothing has changed but slots of the frame and own fields.
  pub record Arrives (local : ℕ → Option ℕ) (text : ℕ → Option (List ℕ)) (op : ℕ) (o : Operation) (f own self : ℕ) (before : Machine)
      (c : Common) (r : Arrived) (s : S) (bytes : Bytes) : Type 0 where
    pub steps : ℕ
    pub last : S
    pub memory : Bytes
    pub native : Native (M.goes code.words) (M.stops code.words) s bytes steps last memory
    pub few : steps ≤ suc (words_of code op)
    pub is_loaded : M.is_loaded last
    pub at : IsStopAt p code op r.place (M.place last)
    pub row : StopRow
    pub is_row : stop_at o.code r.place ≡ Some row
    pub operands : (x : Variable) → IsIn x row.operands → Lives M local text (homes_of homes op o) f last memory (machine_at c r) x
    pub live :
        (x : Variable) (t : StaticType) → Has (live_list o.code r.place row) x t →
        Lives M local text (homes_of homes op o) f last memory (machine_at c r) x
    pub fields : FieldsStand M local text own self (machine_at c r) memory
    pub others : (address : ℕ) → IsBeside M local text f own self before address → memory address ≡ bytes address

  -- It holds from every state that fits what an activation has just behind a stop whose action is done, of what silent steps do.
  abbrev pub FromEach : Reaching S → Type 0
  FromEach Reaches =
      (local : ℕ → Option ℕ) (text : ℕ → Option (List ℕ)) (o : Operation) (a : CodeActivation) (c d : Common) (r : Arrived)
      (address f own : ℕ) (s : S) (bytes : Bytes) →
      AreTables p local text →
      operation_at p a.operation ≡ Some o →
      IsStopAt p code a.operation a.at address →
      walk p.literals a.own (suc a.at) (drop (suc a.at) o.code) 0 (machine_behind p c a) ≡ (d, Some r) →
      M.place s ≡ address + 4 →
      HasWhatIsSet o a.own (machine_behind p c a) →
      Fits M local text (homes_of homes a.operation o) (live_at o.code (suc a.at)) f own a.own (machine_behind p c a) s bytes →
      Reaches local text a.operation o f own a.own (machine_behind p c a) d r s bytes

  pub record Faithful : Type 0 where
    -- each stop has one address, where a stop instruction stands
    pub stops :
        (op n q : ℕ) (o : Operation) → operation_at p op ≡ Some o → slice_get (stop_places o.code) n ≡ Some q →
        (address : ℕ) × (address_of code op n ≡ Some address) × (word_at code.words address ≡ Some M.stop_word)
    -- stop instructions stand there alone
    pub only : (address : ℕ) → word_at code.words address ≡ Some M.stop_word → (op n : ℕ) × (address_of code op n ≡ Some address)
    pub apart : (op n k m address : ℕ) → address_of code op n ≡ Some address → address_of code k m ≡ Some address → (op ≡ k) × (n ≡ m)
    -- the code speaks of the program's operations and stops alone
    pub known :
        (op n address : ℕ) → address_of code op n ≡ Some address →
        (o : Operation) × (operation_at p op ≡ Some o) × (q : ℕ) × (slice_get (stop_places o.code) n ≡ Some q)
    -- The operations lie one behind another, each with its stops among its own words.
    pub whole : words_in_all code.operations ≡ length code.words
    pub within :
        (op n address : ℕ) → address_of code op n ≡ Some address →
        (pc_of (words_before code.operations op) ≤ address) × (address < pc_of (words_before code.operations op + words_of code op))
    -- the code does what silent steps do
    pub runs : FromEach Arrives
