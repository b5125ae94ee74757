-- Runs of a machine, of whichever kind.
use Rattle.std.specs.Prelude.{◌≡◌, ◌≢◌, ℕ, zero, suc, ◌<◌, ◌^◌, ◌++◌, List, length}
use Rattle.ec_base.specs.Bytes.{Bytes}
use Rattle.ec_target.specs.declared.outcome.Trap.{Trap}
use Rattle.ec_target.specs.declared.outcome.Outcome.{Outcome}
use Rattle.ec_target.specs.declared.outcome.Outcome.TheVariants as outcomes

-- what one step of a machine comes to, by its tables: it goes on, is at a stop, or traps
abbrev pub Going : Type 0 → Type 1
Going S = S → Bytes → S → Bytes → Type 0

abbrev pub Standing : Type 0 → Type 1
Standing S = S → Bytes → Type 0

abbrev pub Trapping : Type 0 → Type 1
Trapping S = S → Bytes → Trap → Type 0

-- what a call of `step` answers and leaves: only a step that goes on changes anything
abbrev pub Answers : {S : Type 0} → Going S → Standing S → Trapping S → S → Bytes → Outcome → S → Bytes → Type 0
Answers goes stops traps m b outcomes.Went n c = goes m b n c
Answers goes stops traps m b outcomes.Stop n c = stops m b × (n ≡ m) × (c ≡ b)
Answers goes stops traps m b (outcomes.Trap trap) n c = traps m b trap × (n ≡ m) × (c ≡ b)

-- k steps lead from one state and memory to another
unfoldable pub Leads : {S : Type 0} → Going S → S → Bytes → ℕ → S → Bytes → Type 0
Leads goes m b zero n c = (n ≡ m) × (c ≡ b)
Leads {S} goes m b (suc k) n c = (u : S) × (d : Bytes) × goes m b u d × Leads goes u d k n c

-- k steps lead to a stop. As a step goes one way and a state at a stop doesn't go on, this is the first stop on the way,
-- and k is how many instructions are done before it
abbrev pub Native : {S : Type 0} → Going S → Standing S → S → Bytes → ℕ → S → Bytes → Type 0
Native goes stops m b k n c = Leads goes m b k n c × stops n c

-- no step goes on from here
abbrev pub IsEnd : {S : Type 0} → Going S → S → Bytes → Type 0
IsEnd {S} goes n c = (u : S) (d : Bytes) → goes n c u d → ⊥

-- the steps end, before their number overflows
abbrev pub Halts : {S : Type 0} → Going S → S → Bytes → Type 0
Halts {S} goes m b = (k : ℕ) × (n : S) × (c : Bytes) × (k < 2 ^ 64) × Leads goes m b k n c × IsEnd goes n c

-- ---- laws

-- a step goes one way
abbrev pub IsOneWay : {S : Type 0} → Going S → Type 0
IsOneWay {S} goes = (m : S) (b : Bytes) (n : S) (c : Bytes) (u : S) (d : Bytes) → goes m b n c → goes m b u d → (n ≡ u) × (c ≡ d)

-- a state goes on, is at a stop or traps, and no two of these
pub record AreApart {S : Type 0} (goes : Going S) (stops : Standing S) (traps : Trapping S) : Type 0 where
  pub stop_stays : (m : S) (b : Bytes) (n : S) (c : Bytes) → stops m b → goes m b n c → ⊥
  pub trap_stays : (m : S) (b : Bytes) (trap : Trap) (n : S) (c : Bytes) → traps m b trap → goes m b n c → ⊥
  pub no_stop : (m : S) (b : Bytes) (trap : Trap) → traps m b trap → stops m b → ⊥

-- the base registers of frame and own object are two of so many registers, and not register 0
pub record AreBases (registers frame own : ℕ) : Type 0 where
  pub frame_there : frame < registers
  pub own_there : own < registers
  pub frame_not_zero : 0 < frame
  pub own_not_zero : 0 < own
  pub two : frame ≢ own

-- in a byte order, the bytes of a number read as the number
abbrev pub ReadsBack : (ℕ → List ℕ → ℕ) → (ℕ → ℕ → List ℕ) → Type 0
ReadsBack number_of bytes_of = (n x : ℕ) (rest : List ℕ) → x < 256 ^ n → number_of n (bytes_of n x ++ rest) ≡ x

abbrev pub WritesBytes : (ℕ → ℕ → List ℕ) → Type 0
WritesBytes bytes_of = (n x : ℕ) → length (bytes_of n x) ≡ n

-- ---- what the kernel does to a machine

module _ {S : Type 0} (register : S → ℕ → ℕ) (place : S → ℕ) (rests : S → Type 0) (beside : S → List ℕ) where
  -- one register holds v, and nothing else changes, what is pending included: the flow says it
  pub record SetsRegister {F : Type 0} (flow : S → F) (old new : S) (r v : ℕ) : Type 0 where
    pub set : 0 < r → register new r ≡ v
    pub others : (q : ℕ) → q ≢ r → register new q ≡ register old q
    pub same_place : place new ≡ place old
    pub same_flow : flow new ≡ flow old
    pub still_rests : rests old → rests new
    pub same_beside : beside new ≡ beside old

  -- the machine goes on from pc with nothing pending, and nothing else changes
  pub record SetsPlace (old new : S) (pc : ℕ) : Type 0 where
    pub at : place new ≡ pc
    pub now_rests : rests new
    pub registers : (q : ℕ) → register new q ≡ register old q
    pub same_beside : beside new ≡ beside old
