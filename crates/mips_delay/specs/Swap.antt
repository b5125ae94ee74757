-- One instruction goes into the slot of the branch or jump behind it.
use Rattle.std.specs.Prelude.{◌≡◌, ◌⊎◌, ℕ, ◌+◌, ◌*◌, ◌/◌, ◌^◌, ◌==◌, ◌||◌, ◌&&◌, not, Bool, true, false, List, Some}
use Rattle.ec_target.specs.Code.{pc_of, word_at}
use Rattle.mips_isa.specs.Words.{word_of}
use Rattle.mips_isa.specs.declared.instr.Instr.{Instr}
use Rattle.mips_isa.specs.declared.instr.Instr.TheVariants.{BranchIf, BranchOnZero, J}
use Rattle.mips_machine.specs.Hazards.{is_jump, loads, reads, reads_hilo, sets_hilo, writes}
use Rattle.mips_machine.specs.Step.{Data, Goes, MipsStep, State, branch_target, read, resting}
use Rattle.mips_machine.specs.Values.{is_taken, is_zero_taken, plus}

-- J, or a branch without a link
abbrev pub is_turn : Instr → Bool
is_turn (J target) = true
is_turn (BranchIf branch rs rt offset) = true
is_turn (BranchOnZero branch rs offset) = true
is_turn _ = false

-- whether it is taken
abbrev pub is_turned : Instr → Data → Bool
is_turned (BranchIf branch rs rt offset) d = is_taken branch (read d rs) (read d rt)
is_turned (BranchOnZero branch rs offset) d = is_zero_taken branch (read d rs)
is_turned _ d = true

-- where it leads, standing at a place, if it is taken
abbrev pub turned_to : Instr → ℕ → ℕ
turned_to (J target) pc = plus pc 4 / 2 ^ 28 * 2 ^ 28 + 4 * target.words
turned_to (BranchIf branch rs rt offset) pc = branch_target pc offset
turned_to (BranchOnZero branch rs offset) pc = branch_target pc offset
turned_to _ pc = pc

-- but for its target it is that one
abbrev pub is_same_turn : Instr → Instr → Type 0
is_same_turn (J target) (J other) = Unit {0}
is_same_turn (BranchIf branch rs rt offset) (BranchIf row a b other) = (branch ≡ row) × (rs ≡ a) × (rt ≡ b)
is_same_turn (BranchOnZero branch rs offset) (BranchOnZero row a other) = (branch ≡ row) × (rs ≡ a)
is_same_turn _ _ = ⊥

-- the register that x writes is none that b reads
abbrev pub is_read_of : Instr → ℕ → Bool
is_read_of b r = not (r == 0) && (((reads b).0 == r) || ((reads b).1 == r))

-- what the word before a branch has to be, so that the new code may do it behind the branch
pub record MayFill (x b : Instr) : Type 0 where
  pub no_jump : is_jump x ≡ false
  pub no_load : loads x ≡ 0
  pub no_set : sets_hilo x ≡ false
  pub no_read : reads_hilo x ≡ false
  pub turn : is_turn b ≡ true
  pub other : is_read_of b (writes x) ≡ false

-- both codes are at rest, the old one at a place and the new one at another
pub record RestsAt (s t : State) (from to : ℕ) : Type 0 where
  pub held : s.held ≡ t.held
  pub old_at : s.flow ≡ resting from
  pub new_at : t.flow ≡ resting to

-- Word i of the old code, its branch and a no-op have become the branch, at word j of the new one, and the instruction in its slot.
pub record Swaps (old new : List ℕ) (i j : ℕ) (x b c : Instr) : Type 0 where
  pub may : MayFill x b
  pub same : is_same_turn b c
  pub first : word_at old (pc_of i) ≡ Some (word_of x)
  pub second : word_at old (pc_of (i + 1)) ≡ Some (word_of b)
  pub third : word_at old (pc_of (i + 2)) ≡ Some 0
  pub turn : word_at new (pc_of j) ≡ Some (word_of c)
  pub slot : word_at new (pc_of (j + 1)) ≡ Some (word_of x)

-- a straight state at a place: in no slot, with no load pending; HI and LO may have been read just now
pub record IsStraight (s : State) (pc : ℕ) : Type 0 where
  pub at : s.flow.pc ≡ pc
  pub next : s.flow.next ≡ plus pc 4
  pub no_slot : s.flow.delayed ≡ false
  pub no_load : s.flow.loaded ≡ 0

-- where both go on: behind the slot, or where the branch leads
abbrev pub Rejoins : ℕ → ℕ → Instr → Instr → State → State → Type 0
Rejoins i j b c w v =
    RestsAt w v (plus (plus (plus (pc_of i) 4) 4) 4) (plus (plus (pc_of j) 4) 4)
    ⊎ RestsAt w v (turned_to b (plus (pc_of i) 4)) (turned_to c (pc_of j))

-- From states that hold the same, where the old code does its three instructions, the new one does its two, and both are at rest, at
-- one place or at the other.
abbrev pub SwapRejoins : Type 0
SwapRejoins =
    (old new : List ℕ) (i j : ℕ) (x b c : Instr) → Swaps old new i j x b c → (s t u v w : State) → s.held ≡ t.held →
    IsStraight s (pc_of i) → IsStraight t (pc_of j) → plus (pc_of i) 4 ≡ pc_of (i + 1) → plus (pc_of (i + 1)) 4 ≡ pc_of (i + 2) →
    plus (pc_of j) 4 ≡ pc_of (j + 1) →
    MipsStep old s (Goes u) → MipsStep old u (Goes v) → MipsStep old v (Goes w) →
    (m n : State) × MipsStep new t (Goes m) × MipsStep new m (Goes n) × (m.held ≡ t.held) × Rejoins i j b c w n
