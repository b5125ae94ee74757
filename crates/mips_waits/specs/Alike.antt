-- When states of a code and of the same code without needless no-ops are alike, and that steps keep them so.
use Rattle.std.specs.Prelude.{◌≡◌, ◌⊎◌, ℕ, suc, ◌≤◌, Bool, true, false, List, length, None}
use Rattle.ec_machine_code.specs.Speaks.{words_end}
use Rattle.ec_target.specs.Code.{pc_of, word_at}
use Rattle.mips_delay.specs.Alike.{GoOnAlike}
use Rattle.mips_delay.specs.Fillable.{HasNoLinks}
use Rattle.mips_delay.specs.Places.{drops, place}
use Rattle.mips_waits.specs.Waits.{BehindLoad, IsOfRead, LeavesHiLo, LeavesRegister, WritesNeither}
use Rattle.mips_waits.specs.Words.{SkipsWords}
use Rattle.mips_machine.specs.Hazards.{loads}
use Rattle.mips_machine.specs.Step.{Goes, MipsStep, State, later}
use Rattle.mips_machine.specs.declared.flow.Flow.{Flow}
use Rattle.mips_machine.specs.declared.flow.Since.TheVariants.{LongAgo}

-- When HI or LO was read, at word `here` of the old code: as long ago in both codes; or the old code has a no-op to do there that is gone
-- from the new one; or what comes next, until the new code's read is long ago, writes neither; or it is long ago in the new code.
pub data AgesAlike (old : List ℕ) (skips : ℕ → Bool) (here : ℕ) (f g : Flow) : Type 0 where
  Same : f.since ≡ g.since → AgesAlike old skips here f g
  Waits : drops skips here ≡ true → AgesAlike old skips here f g
  TwoFree : f.delayed ≡ false → LeavesHiLo old here → AgesAlike old skips here f g
  OneFree : WritesNeither old here → later g.since ≡ LongAgo → AgesAlike old skips here f g
  LongSince : g.since ≡ LongAgo → AgesAlike old skips here f g

-- The register that was loaded: the same; or the old code has waited for it, and what comes next leaves it alone.
abbrev pub LoadsAlike : List ℕ → ℕ → Flow → Flow → Type 0
LoadsAlike old here f g = (f.loaded ≡ g.loaded) ⊎ ((f.loaded ≡ 0) × LeavesRegister old here g.loaded)

-- A no-op that goes is word `here`, and is reached straight. Behind a read no load is pending; behind a load that load is, and HI or LO
-- was read before it.
pub record IsReady (old : List ℕ) (here : ℕ) (f g : Flow) : Type 0 where
  pub read : (j : ℕ) → here ≡ suc (suc j) → IsOfRead old j → (f.delayed ≡ false) × (g.loaded ≡ 0)
  pub load :
      (j : ℕ) → here ≡ suc (suc j) → (n : BehindLoad old j) →
      (f.delayed ≡ false) × (g.loaded ≡ loads n.load) × (later g.since ≡ LongAgo)

-- in a slot at word `here`: the jump leads to where the word went to which it led, or out of the code, where nothing goes on
abbrev pub LeadsAlike : List ℕ → (ℕ → Bool) → ℕ → Flow → Flow → Type 0
LeadsAlike old skips here f g =
    ((k : ℕ) × (f.next ≡ pc_of k) × (g.next ≡ pc_of (place skips k)) × (drops skips k ≡ true → k ≡ suc here)) ⊎ (word_at old f.next ≡ None)

-- Word `here` is next in the old code, and the word where it went in the new one; registers and memory are the same, and so is what is
-- pending but for a load that what comes next doesn't need, and the age of HI and LO.
pub record AreAlike (old : List ℕ) (skips : ℕ → Bool) (s t : State) : Type 0 where
  pub here : ℕ
  pub held : s.held ≡ t.held
  pub old_at : s.flow.pc ≡ pc_of here
  pub new_at : t.flow.pc ≡ pc_of (place skips here)
  pub delayed : s.flow.delayed ≡ t.flow.delayed
  pub loaded : LoadsAlike old here s.flow t.flow
  pub ages : AgesAlike old skips here s.flow t.flow
  pub ready : IsReady old here s.flow t.flow
  pub onward :
      ((s.flow.delayed ≡ false) × GoOnAlike s.flow t.flow) ⊎ ((s.flow.delayed ≡ true) × LeadsAlike old skips here s.flow t.flow)

-- at a word that stays each step of the old code is one of the new code
abbrev pub KeptGoes : Type 0
KeptGoes =
    (old new : List ℕ) (skips : ℕ → Bool) → SkipsWords old new skips → HasNoLinks old → length old ≤ words_end →
    (s t u : State) (alike : AreAlike old skips s t) → drops skips alike.here ≡ false → MipsStep old s (Goes u) →
    (v : State) × MipsStep new t (Goes v) × (AreAlike old skips u v ⊎ (word_at old u.flow.pc ≡ None))

-- and a no-op that is gone is none: behind it the old code's state is alike to the one that it was alike to before
abbrev pub GoneGoes : Type 0
GoneGoes =
    (old new : List ℕ) (skips : ℕ → Bool) → SkipsWords old new skips → length old ≤ words_end →
    (s t u : State) (alike : AreAlike old skips s t) → drops skips alike.here ≡ true → MipsStep old s (Goes u) →
    AreAlike old skips u t × (u.held ≡ s.held)
