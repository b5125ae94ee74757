-- When a code follows another one: from stop to stop it does what that one does, at places of its own.
use Rattle.std.specs.Prelude.{◌≡◌, ℕ, ◌+◌, ◌<◌, ◌≤◌, List, ◌∷◌, ◌++◌, length, Some}
use Rattle.ec_base.specs.Bytes.{Bytes}
use Rattle.ec_code.specs.Fine.{IsIn}
use Rattle.ec_code.specs.declared.code.Parts.{Parts}
use Rattle.ec_machine_code.specs.Machine.{MachineMeaning}
use Rattle.ec_machine_code.specs.Once.{AreDifferent, FaithfulOnce, IsWordOf}
use Rattle.ec_machine_code.specs.Stops.{address_of, words_before, words_in_all, words_of}
use Rattle.ec_machine_code.specs.declared.code.Code.{Code}
use Rattle.ec_machine_code.specs.declared.homes.Home.{Home}
use Rattle.ec_target.specs.Code.{pc_of, word_at}
use Rattle.ec_target.specs.Paths.{Passes}

-- an address is one of an operation's
abbrev pub LiesIn : Code → ℕ → ℕ → Type 0
LiesIn code op a = (pc_of (words_before code.operations op) ≤ a) × (a < pc_of (words_before code.operations op + words_of code op))

module _ {S : Type 0} (M : MachineMeaning S) where
  -- base registers and homes hold the same; other registers may differ
  pub record SameHomes (s t : S) : Type 0 where
    pub frame : M.register s M.frame_base ≡ M.register t M.frame_base
    pub owns : M.register s M.own_base ≡ M.register t M.own_base
    pub home : (k : ℕ) → k < M.homes → M.register s (M.first_home + k) ≡ M.register t (M.first_home + k)

  -- a stop of an operation of the code has this address, and a stop instruction stands there
  abbrev pub StopsAt : Code → (op n address : ℕ) → Type 0
  StopsAt code op n address = (address_of code op n ≡ Some address) × (word_at code.words address ≡ Some M.stop_word)

  -- Stops of both codes are one to one, and lie in their operations. Nothing here speaks of runs, or asks that either code be faithful.
  pub record KeepsStops (old new : Code) : Type 0 where
    -- each stop of the old code is one of the new code
    pub there : (op n a : ℕ) → StopsAt old op n a → (b : ℕ) × StopsAt new op n b
    -- the new code speaks of no others
    pub back : (op n b : ℕ) → address_of new op n ≡ Some b → (a : ℕ) × (address_of old op n ≡ Some a)
    -- a stop instruction of the new code is one of the old code
    pub only :
        (b : ℕ) → word_at new.words b ≡ Some M.stop_word →
        (a : ℕ) × (word_at old.words a ≡ Some M.stop_word)
        × ((op n : ℕ) → address_of old op n ≡ Some a → address_of new op n ≡ Some b)
    -- two stops don't come to one address
    pub apart :
        (op n k m a c b : ℕ) → StopsAt old op n a → StopsAt old k m c → address_of new op n ≡ Some b → address_of new k m ≡ Some b → a ≡ c
    -- the operations still are all of the code, and each has its stops among its words
    pub whole : words_in_all old.operations ≡ length old.words → words_in_all new.operations ≡ length new.words
    pub within : (op n a b : ℕ) → StopsAt old op n a → address_of new op n ≡ Some b → LiesIn old op a → LiesIn new op b

  -- A state of the new code that is alike to one of the old code at a stop is at the same stop, with the same in its homes.
  pub record EndsAlike (old new : Code) (s t : S) (bytes : Bytes) : Type 0 where
    pub stops : M.stops new.words t bytes
    pub is_loaded : M.is_loaded s → M.is_loaded t
    pub homes : SameHomes s t
    pub at : (op n : ℕ) → address_of old op n ≡ Some (M.place s) → address_of new op n ≡ Some (M.place t)

  module _ (old new : Code) (Alike : S → S → Type 0) (origin : ℕ → ℕ) where
    -- The old code's run has a first stretch; the new code does what that does, in no more steps, and its state is alike again. Each word
    -- that the new code passes comes from one of the stretch, and none is passed twice.
    pub record Stretch (s t : S) (bytes : Bytes) (path : List ℕ) (last : S) (memory : Bytes) : Type 0 where
      pub front : List ℕ
      pub behind : List ℕ
      pub splits : path ≡ front ++ behind
      pub is_some : 0 < length front
      pub old_next : S
      pub new_next : S
      pub between : Bytes
      pub old_left : Passes (M.goes old.words) M.place behind old_next between last memory
      pub new_path : List ℕ
      pub new_passes : Passes (M.goes new.words) M.place new_path t bytes new_next between
      pub few : length new_path ≤ length front
      pub different : AreDifferent new_path
      pub comes_from : (j : ℕ) → IsIn j new_path → IsIn (origin j) front
      pub alike : Alike old_next new_next

    -- The central relation. `Alike` relates states of the old and the new code where stretches end; `origin` is the word of the old code
    -- from which one of the new code comes. The old code's run up to a stop is given, so no stretch has to show that nothing traps.
    pub record Follows : Type 0 where
      -- a word of the new code belongs to the operation of the word from which it comes
      pub own : (op j : ℕ) → IsWordOf old op (origin j) → IsWordOf new op j
      -- behind a stop, each state of the new code that rests is alike to one of the old code
      pub enters :
          (op n a b : ℕ) (t : S) → StopsAt old op n a → address_of new op n ≡ Some b → M.rests t → M.place t ≡ b + 4 →
          (s : S) × M.rests s × (M.place s ≡ a + 4) × SameHomes s t × Alike s t
      -- from alike states, a run of the old code to a stop begins with a stretch
      pub goes :
          (s t : S) (bytes : Bytes) (i : ℕ) (path : List ℕ) (last : S) (memory : Bytes) → Alike s t →
          Passes (M.goes old.words) M.place (i ∷ path) s bytes last memory → M.stops old.words last memory →
          Stretch s t bytes (i ∷ path) last memory
      -- and at a stop of the old code, the new code is at the same stop
      pub ends : (s t : S) (bytes : Bytes) → Alike s t → M.stops old.words s bytes → EndsAlike old new s t bytes

-- a code that follows faithful code is faithful, for a pass whose states are alike so
abbrev pub FollowingKeepsFaithful : {S : Type 0} → MachineMeaning S → (Code → Code → S → S → Type 0) → Type 0
FollowingKeepsFaithful M Alike =
    (p : Parts) (old new : Code) (homes : List (List Home)) (origin : ℕ → ℕ) → KeepsStops M old new →
    Follows M old new (Alike old new) origin → FaithfulOnce M p old homes → FaithfulOnce M p new homes

-- Wherever the old code gets to a stop, whatever it passes on the way, the new code gets to the same one, in no more steps.
abbrev pub FollowingIsShort : {S : Type 0} → MachineMeaning S → (Code → Code → S → S → Type 0) → Type 0
FollowingIsShort {S} M Alike =
    (old new : Code) (origin : ℕ → ℕ) → Follows M old new (Alike old new) origin →
    (s t : S) (bytes : Bytes) (path : List ℕ) (last : S) (memory : Bytes) → Alike old new s t →
    Passes (M.goes old.words) M.place path s bytes last memory → M.stops old.words last memory →
    (new_path : List ℕ) × (new_last : S) × Passes (M.goes new.words) M.place new_path t bytes new_last memory
    × (length new_path ≤ length path) × Alike old new last new_last × EndsAlike M old new last new_last memory

-- A code follows itself: states are alike where they are the same, and each word comes from itself.
abbrev pub EachCodeFollowsItself : {S : Type 0} → MachineMeaning S → Type 0
EachCodeFollowsItself {S} M = (code : Code) → KeepsStops M code code × Follows M code code (λ s t. s ≡ t) (λ j. j)
