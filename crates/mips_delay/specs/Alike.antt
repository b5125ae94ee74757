-- When states of a code and of the same code with its slots filled are alike, and that steps keep them so.
use Rattle.std.specs.Prelude.{◌≡◌, ◌⊎◌, ℕ, suc, ◌≤◌, Bool, true, false, List, length, None}
use Rattle.ec_machine_code.specs.Speaks.{words_end}
use Rattle.ec_target.specs.Code.{pc_of, word_at}
use Rattle.mips_delay.specs.Fillable.{HasNoLinks}
use Rattle.mips_delay.specs.Places.{FillsWords, is_within, place}
use Rattle.mips_machine.specs.Step.{Goes, MipsStep, State}
use Rattle.mips_machine.specs.Values.{plus}
use Rattle.mips_machine.specs.declared.flow.Flow.{Flow}

-- in a slot at word `here`: the branch leads to where the word went to which it led, or out of the code, where nothing goes on
abbrev pub LeadsAlike : List ℕ → (ℕ → Bool) → ℕ → Flow → Flow → Type 0
LeadsAlike old fills here f g =
    ((k : ℕ) × (f.next ≡ pc_of k) × (g.next ≡ pc_of (place fills k)) × (is_within fills k ≡ false) × (fills k ≡ true → k ≡ suc here))
    ⊎ (word_at old f.next ≡ None)

-- else the word behind is next
abbrev pub GoOnAlike : Flow → Flow → Type 0
GoOnAlike f g = (f.next ≡ plus f.pc 4) × (g.next ≡ plus g.pc 4)

-- Word `here` is next in the old code, and the word where it went in the new one; registers, memory and what is pending are the same. The
-- first word of a filled place is reached straight, with no load pending.
pub record AreAlike (old : List ℕ) (fills : ℕ → Bool) (s t : State) : Type 0 where
  pub here : ℕ
  pub held : s.held ≡ t.held
  pub old_at : s.flow.pc ≡ pc_of here
  pub new_at : t.flow.pc ≡ pc_of (place fills here)
  pub delayed : s.flow.delayed ≡ t.flow.delayed
  pub loaded : s.flow.loaded ≡ t.flow.loaded
  pub since : s.flow.since ≡ t.flow.since
  pub outside : is_within fills here ≡ false
  pub ready : fills here ≡ true → (s.flow.delayed ≡ false) × (s.flow.loaded ≡ 0)
  pub onward :
      ((s.flow.delayed ≡ false) × GoOnAlike s.flow t.flow) ⊎ ((s.flow.delayed ≡ true) × LeadsAlike old fills here s.flow t.flow)

-- outside of filled places each step of the old code is one of the new code
abbrev pub KeptGoes : Type 0
KeptGoes =
    (old new : List ℕ) (fills : ℕ → Bool) → FillsWords old new fills → HasNoLinks old → length old ≤ words_end →
    (s t u : State) (alike : AreAlike old fills s t) → fills alike.here ≡ false → MipsStep old s (Goes u) →
    (v : State) × MipsStep new t (Goes v) × (AreAlike old fills u v ⊎ (word_at old u.flow.pc ≡ None))

-- and at a filled place three steps of the old code, at its three words, are two of the new one
abbrev pub FilledGoes : Type 0
FilledGoes =
    (old new : List ℕ) (fills : ℕ → Bool) → FillsWords old new fills → length old ≤ words_end →
    (s t u v w : State) (alike : AreAlike old fills s t) → fills alike.here ≡ true → MipsStep old s (Goes u) → MipsStep old u (Goes v) →
    MipsStep old v (Goes w) →
    (m n : State) × MipsStep new t (Goes m) × MipsStep new m (Goes n) × (m.held ≡ t.held)
    × (AreAlike old fills w n ⊎ (word_at old w.flow.pc ≡ None))
