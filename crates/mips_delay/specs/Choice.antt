-- How `fill` decides, in terms that a program can compute.
use Rattle.std.specs.Prelude.{◌≡◌, ◌⊎◌, ℕ, suc, ◌+◌, ◌<◌, ◌≤◌, ◌%◌, ◌^◌, ◌&&◌, ◌||◌, not, Bool, true, false, List, length, slice_index}
use Rattle.std.specs.Prelude.{slice_get}
use Rattle.std.specs.Prelude.{Option, None, Some}
use Rattle.ec_target.specs.Code.{pc_of}
use Rattle.mips_delay.specs.Fillable.{StandsAt, has_slot, is_load}
use Rattle.mips_delay.specs.Places.{IsKept, Retargets, drops, is_within, moved_to, place}
use Rattle.mips_delay.specs.Swap.{is_read_of, is_turn, turned_to}
use Rattle.mips_isa.specs.Words.{word_of}
use Rattle.mips_isa.specs.declared.instr.Instr.{Instr}
use Rattle.mips_isa.specs.declared.instr.Instr.TheVariants.{BranchIf, BranchOnZero, J, Lui, OnImmediate, OnRegisters, OnShift}
use Rattle.mips_isa.specs.declared.instr.Instr.TheVariants.{OnVariableShift, StoreTo}
use Rattle.mips_machine.specs.Hazards.{writes}

-- ---- one place

-- it may go into a slot: neither a load nor a jump, a branch or a stop, nor one that uses HI or LO
abbrev pub is_movable : Instr → Bool
is_movable (OnShift shift rd rt amount) = true
is_movable (OnVariableShift shift rd rt rs) = true
is_movable (OnRegisters operation rd rs rt) = true
is_movable (OnImmediate operation rt rs number) = true
is_movable (Lui rt number) = true
is_movable (StoreTo store rt rs offset) = true
is_movable _ = false

-- it may go into the slot of this branch
abbrev pub may_move : Instr → Instr → Bool
may_move x b = is_movable x && is_turn b && not (is_read_of b (writes x))

-- what stands behind it is in a delay slot, or in a load's
abbrev pub has_hold : Instr → Bool
has_hold x = has_slot x || is_load x

-- a jump or a branch among the first so many words goes to a word
pub record GoesBefore (code : List ℕ) (many to : ℕ) : Type 0 where
  pub from : ℕ
  pub before : from < many
  pub by : Instr
  pub stands : StandsAt code from by
  pub turns : is_turn by ≡ true
  pub leads : turned_to by (pc_of from) ≡ pc_of to

-- a word at a place is a jump or a branch that goes to a word
abbrev pub LeadsTo : (word pc to : ℕ) → Type 0
LeadsTo word pc to = (b : Instr) × (word_of b ≡ word) × (is_turn b ≡ true) × (turned_to b pc ≡ pc_of to)

-- ---- lists of answers, one for each word

abbrev pub is_set : Option Bool → Bool
is_set None = false
is_set (Some b) = b

abbrev pub set_at : List Bool → ℕ → Bool
set_at list i = is_set (slice_get list i)

-- ---- words

-- addresses of words, so near that a branch's offset reaches from one to the other
abbrev pub IsNear : (at goal : ℕ) → Type 0
IsNear at goal =
    (at % 4 ≡ 0) × (goal % 4 ≡ 0) × (at + 4 < 2 ^ 32) × (goal < 2 ^ 32) × (at + 4 ≤ goal + 2 ^ 17) × (goal < at + 4 + 2 ^ 17)

-- a jump or a branch at an address can lead to another one
abbrev pub CanLead : Instr → (at goal : ℕ) → Type 0
CanLead (J target) at goal = (at + 4 < 2 ^ 28) × (goal < 2 ^ 28) × (goal % 4 ≡ 0)
CanLead (BranchIf branch rs rt offset) at goal = IsNear at goal
CanLead (BranchOnZero branch rs offset) at goal = IsNear at goal
CanLead _ at goal = Unit {0}

-- word v at `to` is word w at `from`: a jump or a branch leads along, all else is the same
abbrev pub IsMoved : (ℕ → Bool) → (from to w v : ℕ) → Type 0
IsMoved fills from to w v = Retargets fills from to w v ⊎ ((v ≡ w) × ((b : Instr) → w ≡ word_of b → is_turn b ≡ false))

-- What stands where word i went: of a filled place the branch first, then the word that stood before it.
abbrev pub Stands : List ℕ → (ℕ → Bool) → (i v : ℕ) → Type 0
Stands old fills i v =
    ((fills i ≡ true) × IsMoved fills (suc i) (place fills i) (slice_index old (suc i)) v)
    ⊎ (((j : ℕ) × (i ≡ suc j) × (fills j ≡ true) × (v ≡ slice_index old j))
    ⊎ ((fills i ≡ false) × (is_within fills i ≡ false) × IsKept fills i (slice_index old i) v))

-- the word to be written for word i: none for a no-op that goes
abbrev pub IsWordFor : List ℕ → (ℕ → Bool) → ℕ → Option ℕ → Type 0
IsWordFor old fills i None = drops fills i ≡ true
IsWordFor old fills i (Some v) = (drops fills i ≡ false) × Stands old fills i v

-- each branch of a code can lead along, wherever its word goes
abbrev pub LeadAlong : List ℕ → (ℕ → Bool) → Type 0
LeadAlong old fills =
    (i : ℕ) (b : Instr) → i < length old → word_of b ≡ slice_index old i → is_turn b ≡ true →
    (drops fills i ≡ false → CanLead b (pc_of (place fills i)) (moved_to fills (turned_to b (pc_of i))))
    × ((j : ℕ) → i ≡ suc j → fills j ≡ true → CanLead b (pc_of (place fills j)) (moved_to fills (turned_to b (pc_of i))))
