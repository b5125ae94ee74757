-- Where words go when slots are filled, and the words of a code with its slots filled.
use Rattle.std.specs.Prelude.{◌≡◌, ◌⊎◌, ℕ, zero, suc, ◌-◌, ◌/◌, ◌%◌, ◌==◌, ◌&&◌, nat_le, Bool, true, false, List, length, Some}
use Rattle.std.specs.Prelude.{if◌then◌else◌}
use Rattle.ec_target.specs.Code.{code_base, pc_of, word_at}
use Rattle.mips_delay.specs.Fillable.{Fillable, HasNoneLeft}
use Rattle.mips_delay.specs.Swap.{Swaps, is_same_turn, is_turn, turned_to}
use Rattle.mips_isa.specs.Words.{word_of}
use Rattle.mips_isa.specs.declared.instr.Instr.{Instr}

-- ---- the map of places: `fills` says for each word whether the second word behind it goes; so it is with the no-op of a slot into
-- ---- which the word itself goes

-- word i goes
abbrev pub drops : (ℕ → Bool) → ℕ → Bool
drops fills zero = false
drops fills (suc zero) = false
drops fills (suc (suc j)) = fills j

-- where word i goes: the word that goes into a slot changes places with its branch, and else all stay in their order
abbrev pub place : (ℕ → Bool) → ℕ → ℕ
place fills zero = 0
place fills (suc i) = if drops fills i then place fills i else suc (place fills i)

-- word i is the branch of a filled place, or its no-op
abbrev pub is_within : (ℕ → Bool) → ℕ → Bool
is_within fills zero = false
is_within fills (suc i) = if fills i then true else drops fills (suc i)

-- where an address goes: with the word that lies there; what is no place of a word stays
abbrev pub moved_to : (ℕ → Bool) → ℕ → ℕ
moved_to fills a = if nat_le code_base a && (a % 4 == 0) then pc_of (place fills ((a - code_base) / 4)) else a

-- ---- the words

-- a branch at one word of the old code, and the new code's at another: it leads to where that went to which it led
abbrev pub LeadsAlong : (ℕ → Bool) → (from to : ℕ) → (branch led : Instr) → Type 0
LeadsAlong fills from to branch led = turned_to led (pc_of to) ≡ moved_to fills (turned_to branch (pc_of from))

-- word v at `to` is the branch w at `from`, with its target moved along
pub record Retargets (fills : ℕ → Bool) (from to w v : ℕ) : Type 0 where
  pub branch : Instr
  pub led : Instr
  pub was : w ≡ word_of branch
  pub is : v ≡ word_of led
  pub turns : is_turn branch ≡ true
  pub same : is_same_turn branch led
  pub leads : LeadsAlong fills from to branch led

-- word i, outside of filled places: a branch with its target moved along, or as it was
abbrev pub IsKept : (ℕ → Bool) → ℕ → ℕ → ℕ → Type 0
IsKept fills i w v = Retargets fills i (place fills i) w v ⊎ ((v ≡ w) × ((b : Instr) → w ≡ word_of b → is_turn b ≡ false))

-- a filled place: the branch, with its target moved along, and behind it the word that stood before it
pub record SwapsAt (old new : List ℕ) (fills : ℕ → Bool) (j : ℕ) : Type 0 where
  pub moves : Instr
  pub branch : Instr
  pub led : Instr
  pub swaps : Swaps old new j (place fills j) moves branch led
  pub leads : LeadsAlong fills (suc j) (place fills j) branch led

-- The words of a code and of the same code with its slots filled: just the places that can be filled are.
pub record FillsWords (old new : List ℕ) (fills : ℕ → Bool) : Type 0 where
  pub each : (j : ℕ) → fills j ≡ true → Fillable old j
  pub all : (j : ℕ) → Fillable old j → fills j ≡ true
  pub swaps : (j : ℕ) → fills j ≡ true → SwapsAt old new fills j
  pub kept :
      (i w : ℕ) → fills i ≡ false → is_within fills i ≡ false → word_at old (pc_of i) ≡ Some w →
      (v : ℕ) × (word_at new (pc_of (place fills i)) ≡ Some v) × IsKept fills i w v
  pub long : length new ≡ place fills (length old)

-- Once is enough: what was filled makes no other place fillable.
abbrev pub NoneIsLeft : Type 0
NoneIsLeft = (old new : List ℕ) (fills : ℕ → Bool) → FillsWords old new fills → HasNoneLeft new
