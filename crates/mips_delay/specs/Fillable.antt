-- The places of a MIPS code where an instruction may go into the delay slot of the branch behind it. Words are counted from 0; a place is
-- named by its first word, the one that goes into the slot.
use Rattle.std.specs.Prelude.{◌≡◌, ◌≢◌, ℕ, suc, ◌&&◌, not, Bool, true, false, List, Some}
use Rattle.ec_target.specs.Code.{pc_of, word_at}
use Rattle.mips_delay.specs.Swap.{MayFill, is_turn, turned_to}
use Rattle.mips_isa.specs.Words.{word_of}
use Rattle.mips_isa.specs.declared.instr.Instr.{Instr}
use Rattle.mips_isa.specs.declared.instr.Instr.TheVariants.{Jal, Jalr, Jr, LoadFrom}
use Rattle.mips_machine.specs.Hazards.{is_jump, is_stop}

-- an instruction is word i of a code
abbrev pub StandsAt : List ℕ → ℕ → Instr → Type 0
StandsAt code i x = word_at code (pc_of i) ≡ Some (word_of x)

-- ---- the condition: no target and no link is a value, which would stay while words move

-- a jump to what a register holds, or one that links
abbrev pub is_by_value : Instr → Bool
is_by_value (Jr rs) = true
is_by_value (Jal target) = true
is_by_value (Jalr link) = true
is_by_value _ = false

-- no word is JAL, JR or JALR
abbrev pub HasNoLinks : List ℕ → Type 0
HasNoLinks code = (i : ℕ) (x : Instr) → StandsAt code i x → is_by_value x ≡ false

-- ---- places that can be filled

abbrev pub is_load : Instr → Bool
is_load (LoadFrom load rt rs offset) = true
is_load _ = false

-- the instruction behind it is in a delay slot
abbrev pub has_slot : Instr → Bool
has_slot x = is_jump x && not (is_stop x)

-- a jump or a branch of the code goes to word `to`
pub record GoesTo (code : List ℕ) (to : ℕ) : Type 0 where
  pub from : ℕ
  pub by : Instr
  pub stands : StandsAt code from by
  pub turns : is_turn by ≡ true
  pub leads : turned_to by (pc_of from) ≡ pc_of to

-- Word j may go into the slot of the branch at j + 1, where now a no-op stands.
pub record Fillable (code : List ℕ) (j : ℕ) : Type 0 where
  pub moves : Instr
  pub branch : Instr
  pub first : StandsAt code j moves
  pub second : StandsAt code (suc j) branch
  pub third : word_at code (pc_of (suc (suc j))) ≡ Some 0
  -- no jump, branch, stop, nor one that uses HI or LO; behind it a branch that doesn't read what it writes
  pub may : MayFill moves branch
  pub no_load : is_load moves ≡ false
  pub no_nothing : word_of moves ≢ 0
  -- it is in no delay slot, a load's neither
  pub free : (i : ℕ) (x : Instr) → suc i ≡ j → StandsAt code i x → (has_slot x ≡ false) × (is_load x ≡ false)
  -- no jump goes to any of the three words
  pub unled : (k : ℕ) → GoesTo code k → (k ≢ j) × (k ≢ suc j) × (k ≢ suc (suc j))

-- no place can be filled
abbrev pub HasNoneLeft : List ℕ → Type 0
HasNoneLeft code = (j : ℕ) → Fillable code j → ⊥
