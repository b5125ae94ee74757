-- Needless no-ops dropped: codes with their stops, and what `drop_waits` promises.
use Rattle.std.specs.Prelude.{ℕ, ◌≤◌, Bool, length}
use Rattle.ec_base.specs.Bytes.{Bytes}
use Rattle.ec_machine_code.specs.Speaks.{words_end}
use Rattle.ec_machine_code.specs.declared.code.Code.{Code}
use Rattle.ec_passes.specs.Following.{Follows, KeepsStops}
use Rattle.mips_code.specs.Meaning.{mips_meaning}
use Rattle.mips_delay.specs.Fill.{KeepsFaithful, Moved, TakesNoMoreSteps}
use Rattle.mips_delay.specs.Fillable.{HasNoLinks}
use Rattle.mips_waits.specs.Alike.{AreAlike}
use Rattle.mips_waits.specs.Words.{SkipsWords}
use Rattle.mips_machine.specs.Machine.{state_of}
use Rattle.mips_machine.specs.declared.machine.MipsMachine.{MipsMachine}

-- The new code is the old one without its needless no-ops, and its stops and operations have moved with their words.
pub record Dropped (old new : Code) (skips : ℕ → Bool) : Type 0 where
  pub words : SkipsWords old.words new.words skips
  pub moved : Moved old new skips

-- machines of both codes are alike, with whichever memory
abbrev pub DropAlike : (ℕ → Bool) → Code → Code → MipsMachine → MipsMachine → Type 0
DropAlike skips old new s t = (b : Bytes) → AreAlike old.words skips (state_of s b) (state_of t b)

-- what holds of each such code
abbrev pub OfDropped : (Code → Code → (ℕ → Bool) → Type 0) → Type 0
OfDropped Holds =
    (old new : Code) (skips : ℕ → Bool) → HasNoLinks old.words → length old.words ≤ words_end → Dropped old new skips → Holds old new skips

-- It follows the code that it was,
abbrev pub DroppedFollows : Type 0
DroppedFollows = OfDropped (λ old new skips.
    KeepsStops mips_meaning old new × ((origin : ℕ → ℕ) × Follows mips_meaning old new (DropAlike skips old new) origin))

-- so it keeps what that kept,
abbrev pub DroppedKeeps : Type 0
DroppedKeeps = OfDropped (λ old new skips. KeepsFaithful old new)

-- is no slower,
abbrev pub DroppedIsShort : Type 0
DroppedIsShort = OfDropped (λ old new skips. TakesNoMoreSteps old new)

-- and still has no jump whose target or link is a value.
abbrev pub DroppedHasNoLinks : Type 0
DroppedHasNoLinks = OfDropped (λ old new skips. HasNoLinks new.words)
