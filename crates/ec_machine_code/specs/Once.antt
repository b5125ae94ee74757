-- When faithful code passes no word twice between two stops. The bound on its steps follows, and unlike that number this is kept where
-- words are taken away.
use Rattle.std.specs.Prelude.{ℕ, ◌+◌, ◌<◌, ◌≤◌, List, [], ◌∷◌}
use Rattle.ec_base.specs.Bytes.{Bytes}
use Rattle.ec_code.specs.Fine.{IsIn}
use Rattle.ec_code.specs.declared.code.Parts.{Parts}
use Rattle.ec_machine_code.specs.Faithful.{Arrives, Faithful, FromEach, Reaching}
use Rattle.ec_machine_code.specs.Machine.{MachineMeaning}
use Rattle.ec_machine_code.specs.Stops.{words_before, words_of}
use Rattle.ec_machine_code.specs.declared.code.Code.{Code}
use Rattle.ec_machine_code.specs.declared.homes.Home.{Home}
use Rattle.ec_target.specs.Paths.{Passes}

-- no item stands twice
abbrev pub AreDifferent : List ℕ → Type 0
AreDifferent [] = Unit {0}
AreDifferent (i ∷ is) = (IsIn i is → ⊥) × AreDifferent is

-- word i is one of an operation's
abbrev pub IsWordOf : Code → (op i : ℕ) → Type 0
IsWordOf code op i = (words_before code.operations op ≤ i) × (i < words_before code.operations op + words_of code op)

module _ {S : Type 0} (M : MachineMeaning S) where
  -- words of an operation, none of them twice, lead from one state to another
  pub record Once (code : Code) (op : ℕ) (s : S) (bytes : Bytes) (last : S) (memory : Bytes) : Type 0 where
    pub path : List ℕ
    pub passes : Passes (M.goes code.words) M.place path s bytes last memory
    pub different : AreDifferent path
    pub inside : (i : ℕ) → IsIn i path → IsWordOf code op i

  module _ (p : Parts) (code : Code) (homes : List (List Home)) where
    -- an arrival whose run passes no word twice
    abbrev pub ArrivesOnce : Reaching S
    ArrivesOnce local text op o f own self before c r s bytes =
        (arrives : Arrives M p code homes local text op o f own self before c r s bytes)
        × Once code op s bytes arrives.last arrives.memory

    -- faithful code that passes no word twice between two stops
    pub record FaithfulOnce : Type 0 where
      pub faithful : Faithful M p code homes
      pub once : FromEach M p code homes ArrivesOnce
