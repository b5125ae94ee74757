-- Delay slots filled: codes with their stops, and what `fill` promises.
use Rattle.std.specs.Prelude.{◌≡◌, ℕ, ◌+◌, ◌≤◌, Bool, List, length, Some}
use Rattle.std.specs.Option.{option_map}
use Rattle.ec_base.specs.Bytes.{Bytes}
use Rattle.ec_code.specs.declared.code.Parts.{Parts}
use Rattle.ec_machine_code.specs.Once.{FaithfulOnce}
use Rattle.ec_machine_code.specs.Speaks.{words_end}
use Rattle.ec_machine_code.specs.Stops.{address_of, words_before, words_in_all, words_of}
use Rattle.ec_machine_code.specs.declared.code.Code.{Code}
use Rattle.ec_machine_code.specs.declared.homes.Home.{Home}
use Rattle.ec_passes.specs.Following.{Follows, KeepsStops, StopsAt}
use Rattle.ec_target.specs.Runs.{Native}
use Rattle.mips_code.specs.Meaning.{mips_meaning}
use Rattle.mips_delay.specs.Alike.{AreAlike}
use Rattle.mips_delay.specs.Fillable.{HasNoLinks}
use Rattle.mips_delay.specs.Places.{FillsWords, moved_to, place}
use Rattle.mips_machine.specs.Machine.{mips_goes, mips_place, mips_rests, mips_stops, state_of}
use Rattle.mips_machine.specs.declared.machine.MipsMachine.{MipsMachine}

-- ---- what becomes of a code

-- Each stop is where its word went, and each operation begins and ends where its first word and the word behind it went.
pub record Moved (old new : Code) (fills : ℕ → Bool) : Type 0 where
  pub stops : (op n : ℕ) → address_of new op n ≡ option_map (moved_to fills) (address_of old op n)
  pub begins : (op : ℕ) → words_before new.operations op ≡ place fills (words_before old.operations op)
  pub ends :
      (op : ℕ) → words_before new.operations op + words_of new op ≡ place fills (words_before old.operations op + words_of old op)
  pub whole : words_in_all new.operations ≡ place fills (words_in_all old.operations)
  pub many : length new.operations ≡ length old.operations

-- The new code is the old one with its slots filled.
pub record Filled (old new : Code) (fills : ℕ → Bool) : Type 0 where
  pub words : FillsWords old.words new.words fills
  pub moved : Moved old new fills

-- ---- what it keeps

-- it is faithful to whichever program the old code was, and passes no word twice where that didn't
abbrev pub KeepsFaithful : Code → Code → Type 0
KeepsFaithful old new =
    (p : Parts) (homes : List (List Home)) → FaithfulOnce mips_meaning p old homes → FaithfulOnce mips_meaning p new homes

-- all registers hold the same
pub record HoldSame (s t : MipsMachine) : Type 0 where
  pub registers : s.registers ≡ t.registers
  pub hi : s.hi ≡ t.hi
  pub lo : s.lo ≡ t.lo

-- A machine rests behind a stop.
abbrev pub RestsBehind : MipsMachine → ℕ → Type 0
RestsBehind m stop = mips_rests m × (mips_place m ≡ stop + 4)

-- From any stop on, where the old code comes to another stop, the new code comes to the same one in at most as many steps, with the same
-- in each register and in memory.
abbrev pub TakesNoMoreSteps : Code → Code → Type 0
TakesNoMoreSteps old new =
    (op n a b : ℕ) → StopsAt mips_meaning old op n a → address_of new op n ≡ Some b →
    (s t : MipsMachine) → RestsBehind s a → RestsBehind t b → HoldSame s t →
    (bytes : Bytes) (steps : ℕ) (last : MipsMachine) (memory : Bytes) →
    Native (mips_goes old.words) (mips_stops old.words) s bytes steps last memory →
    (few : ℕ) × (new_last : MipsMachine) × Native (mips_goes new.words) (mips_stops new.words) t bytes few new_last memory
    × (few ≤ steps) × HoldSame last new_last
    × ((k m : ℕ) → address_of old k m ≡ Some (mips_place last) → address_of new k m ≡ Some (mips_place new_last))

-- ---- why: the laws

-- machines of both codes are alike, with whichever memory
abbrev pub FillAlike : (ℕ → Bool) → Code → Code → MipsMachine → MipsMachine → Type 0
FillAlike fills old new s t = (b : Bytes) → AreAlike old.words fills (state_of s b) (state_of t b)

-- what holds of each code with its slots filled
abbrev pub OfFilled : (Code → Code → (ℕ → Bool) → Type 0) → Type 0
OfFilled Holds =
    (old new : Code) (fills : ℕ → Bool) → HasNoLinks old.words → length old.words ≤ words_end → Filled old new fills → Holds old new fills

-- It follows the code that it was,
abbrev pub FilledFollows : Type 0
FilledFollows = OfFilled (λ old new fills.
    KeepsStops mips_meaning old new × ((origin : ℕ → ℕ) × Follows mips_meaning old new (FillAlike fills old new) origin))

-- so it keeps what that kept,
abbrev pub FilledKeeps : Type 0
FilledKeeps = OfFilled (λ old new fills. KeepsFaithful old new)

-- and is no slower.
abbrev pub FilledIsShort : Type 0
FilledIsShort = OfFilled (λ old new fills. TakesNoMoreSteps old new)
