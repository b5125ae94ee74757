-- When the state of a machine stands for what an activation of three-address code has: its variables in their homes, the fields of
-- its own object and the program's constants in their words.
use Rattle.std.specs.Int.{w32}
use Rattle.std.specs.Prelude.{◌≡◌, ◌≢◌, ℕ, ◌+◌, ◌<◌, ◌≤◌, ◌^◌, ◌⊎◌, List, length, Option, Some, None, slice_get, FitsSigned}
use Rattle.ec_base.specs.Bytes.{Bytes}
use Rattle.ec_code.specs.Fine.{Has}
use Rattle.ec_code.specs.Steps.{Machine, own_field, variable_at}
use Rattle.ec_code.specs.declared.code.Line.{Line}
use Rattle.ec_code.specs.declared.code.Live.{Live}
use Rattle.ec_code.specs.declared.code.Op.TheVariants.{SetField}
use Rattle.ec_code.specs.declared.code.Operand.{Operand}
use Rattle.ec_code.specs.declared.code.Operation.{Operation}
use Rattle.ec_code.specs.declared.code.Parts.{Parts}
use Rattle.ec_code.specs.declared.code.Variable.{Variable}
use Rattle.ec_types.specs.declared.conform.static_type.StaticType.{StaticType}
use Rattle.ec_machine_code.specs.Frames.{block_at, block_words, field_at, most_blocks, own_reference, slot_at, slots}
use Rattle.ec_machine_code.specs.Machine.{MachineMeaning}
use Rattle.ec_machine_code.specs.declared.homes.Home.{Home}
use Rattle.ec_machine_code.specs.declared.homes.Home.TheVariants.{Register, Slot}
use Rattle.ec_memory.specs.Words.{HasWord, block_word_at, global_word_at, word_in}
use Rattle.ec_world.specs.Words.{StandsFor}
use Rattle.ec_world.specs.declared.value.Value.{Value}
use Rattle.ec_world.specs.declared.value.Value.TheVariants.{Int, Str, Ref, Nil, Bool as Truth}

-- a number is one of 32 bits, signed
abbrev pub FitsWord : Value → Type 0
FitsWord (Int z) = FitsSigned w32 z
FitsWord (Truth b) = Unit {0}
FitsWord (Str s) = Unit {0}
FitsWord (Ref o) = Unit {0}
FitsWord Nil = Unit {0}

-- Local references and texts: each number is one of 32 bits and stands for one thing, and each thing has one number; 0 is no
-- reference; and the literals of the program stand at their places in its list. Whatever else is there is free.
pub record AreTables (p : Parts) (local : ℕ → Option ℕ) (text : ℕ → Option (List ℕ)) : Type 0 where
  pub nil : local 0 ≡ None
  pub locals : (i j oid : ℕ) → local i ≡ Some oid → local j ≡ Some oid → i ≡ j
  pub texts : (i j : ℕ) (t : List ℕ) → text i ≡ Some t → text j ≡ Some t → i ≡ j
  pub small_locals : (i oid : ℕ) → local i ≡ Some oid → i < 2 ^ 32
  pub small_texts : (i : ℕ) (t : List ℕ) → text i ≡ Some t → i < 2 ^ 32
  pub literals : (i : ℕ) (t : List ℕ) → slice_get p.literals i ≡ Some t → text i ≡ Some t

-- What an operation's silent steps set is there: its named variables, and each field of the own object to which its code stores.
pub record HasWhatIsSet (o : Operation) (self : ℕ) (m : Machine) : Type 0 where
  pub variables : length o.variables ≤ length m.variables
  pub fields :
      (q n : ℕ) (line : Line) (from : Operand) → slice_get o.code q ≡ Some line → line.op ≡ SetField n from →
      (v : Value) × (own_field m.common self n ≡ Some v)

module _ {S : Type 0} (M : MachineMeaning S) (local : ℕ → Option ℕ) (text : ℕ → Option (List ℕ)) where
  -- the word at an address stands for a value
  pub record WordStands (bytes : Bytes) (at : ℕ) (v : Value) : Type 0 where
    pub word : ℕ
    pub there : word_in M.number bytes at ≡ Some word
    pub stands : StandsFor local text v word

  -- a home holds a word for a value: a slot of the frame at block f, or a register
  abbrev pub HomeStands : ℕ → S → Bytes → Home → Value → Type 0
  HomeStands f s bytes (Slot n) v = (n < slots) × WordStands bytes (slot_at f n) v
  HomeStands f s bytes (Register k) v = (k < M.homes) × StandsFor local text v (M.register s (M.first_home + k))

  -- a variable is there, and its home holds its value
  pub record Lives (homes : Variable → Option Home) (f : ℕ) (s : S) (bytes : Bytes) (m : Machine) (x : Variable) : Type 0 where
    pub value : Value
    pub is : variable_at m x ≡ Some value
    pub fits : FitsWord value
    pub home : Home
    pub has : homes x ≡ Some home
    pub stands : HomeStands f s bytes home value

  -- each field of the own object stands in its word, and they are in one block
  pub record FieldsStand (own self : ℕ) (m : Machine) (bytes : Bytes) : Type 0 where
    pub each : (i : ℕ) (v : Value) → own_field m.common self i ≡ Some v → FitsWord v × WordStands bytes (field_at own i) v
    pub few : (i : ℕ) (v : Value) → own_field m.common self i ≡ Some v → i < block_words

  -- each constant of the program stands in its word
  pub record ConstantsStand (m : Machine) (bytes : Bytes) : Type 0 where
    pub each : (i : ℕ) (v : Value) → slice_get m.common.globals i ≡ Some v → FitsWord v × WordStands bytes (global_word_at i) v
    pub few : length m.common.globals ≤ 2 ^ 20

  -- A state fits what an activation has, with its frame at block f and its own object at another one: the base registers hold
  -- their addresses, and these variables stand at their homes. Whatever else the state holds is free.
  pub record Fits (homes : Variable → Option Home) (alive : List Live) (f own self : ℕ) (m : Machine) (s : S) (bytes : Bytes) :
      Type 0 where
    pub rests : M.rests s
    pub frame_base : M.register s M.frame_base ≡ block_at f
    pub own_base : M.register s M.own_base ≡ block_at own
    pub frame_small : f < most_blocks
    pub own_small : own < most_blocks
    pub apart : f ≢ own
    pub frame : (i : ℕ) → i < block_words → HasWord bytes (block_word_at f i)
    pub itself : (w : ℕ) × (word_in M.number bytes (block_word_at f own_reference) ≡ Some w) × (local w ≡ Some self)
    pub live : (x : Variable) (t : StaticType) → Has alive x t → Lives homes f s bytes m x
    pub fields : FieldsStand own self m bytes
    pub constants : ConstantsStand m bytes

  -- an address that is in no slot of the frame, and in no field of the own object
  pub record IsBeside (f own self : ℕ) (m : Machine) (address : ℕ) : Type 0 where
    pub slot : (n : ℕ) → n < slots → (address < slot_at f n) ⊎ (slot_at f n + 4 ≤ address)
    pub field : (i : ℕ) (v : Value) → own_field m.common self i ≡ Some v → (address < field_at own i) ⊎ (field_at own i + 4 ≤ address)
