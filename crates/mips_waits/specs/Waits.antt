-- The places of a MIPS code where no-ops wait that nothing needs: two behind a read of HI or LO (Kane, MIPS RISC Architecture, appendix
-- A, MFHI and MFLO: neither of the two instructions behind may write HI or LO), and one behind a load (chapter 1, "Delayed Load
-- Instructions": the instruction behind may not touch the register). Words are counted from 0; a place is named by the word before the
-- read or the load.
use Rattle.std.specs.Prelude.{◌≡◌, ◌≢◌, ◌⊎◌, ℕ, suc, true, false, List, Some}
use Rattle.ec_target.specs.Code.{pc_of, word_at}
use Rattle.mips_delay.specs.Fillable.{GoesTo, StandsAt, is_load}
use Rattle.mips_isa.specs.declared.instr.Instr.{Instr}
use Rattle.mips_isa.specs.declared.instr.Instr.TheVariants.{Syscall}
use Rattle.mips_machine.specs.Hazards.{is_stop, loads, reads_hilo, sets_hilo, touches}

-- ---- behind a read of HI or LO

-- what stands at word i, if anything does, writes neither HI nor LO
abbrev pub WritesNeither : List ℕ → ℕ → Type 0
WritesNeither code i = (x : Instr) → StandsAt code i x → sets_hilo x ≡ false

-- So it is with the two instructions from word i on. Behind a stop HI and LO were read long ago, so what stands there is free.
abbrev pub LeavesHiLo : List ℕ → ℕ → Type 0
LeavesHiLo code i = WritesNeither code i × (StandsAt code i Syscall ⊎ WritesNeither code (suc i))

-- HI or LO is read at word j + 1, and the two no-ops behind needn't be there.
pub record BehindRead (code : List ℕ) (j : ℕ) : Type 0 where
  pub read : Instr
  pub first : StandsAt code (suc j) read
  pub reads : reads_hilo read ≡ true
  pub second : word_at code (pc_of (suc (suc j))) ≡ Some 0
  pub third : word_at code (pc_of (suc (suc (suc j)))) ≡ Some 0
  -- no jump goes to either: they are reached from the read alone
  pub unled : (k : ℕ) → GoesTo code k → (k ≢ suc (suc j)) × (k ≢ suc (suc (suc j)))
  -- Neither of the next two instructions writes HI or LO. On any way on these are the next two words: a jump goes where it goes behind its slot.
  pub free : LeavesHiLo code (suc (suc (suc (suc j))))

-- word j + 2 is such a no-op, the first or the second
abbrev pub IsOfRead : List ℕ → ℕ → Type 0
IsOfRead code j = BehindRead code j ⊎ ((m : ℕ) × (j ≡ suc m) × BehindRead code m)

-- ---- behind a load

-- What stands at word i, if anything does, neither reads nor writes a register, and is no stop, where nothing may be pending.
abbrev pub LeavesRegister : List ℕ → ℕ → ℕ → Type 0
LeavesRegister code i r = (x : Instr) → StandsAt code i x → (touches x r ≡ false) × (is_stop x ≡ false)

-- A register is loaded at word j + 1, and the no-op behind needn't be there.
pub record BehindLoad (code : List ℕ) (j : ℕ) : Type 0 where
  pub load : Instr
  pub first : StandsAt code (suc j) load
  pub is_load : is_load load ≡ true
  pub second : word_at code (pc_of (suc (suc j))) ≡ Some 0
  -- no jump goes to it: it is reached from the load alone
  pub unled : (k : ℕ) → GoesTo code k → k ≢ suc (suc j)
  -- what comes next doesn't need what is loaded,
  pub free : LeavesRegister code (suc (suc (suc j))) (loads load)
  -- and leaves HI and LO alone, which the instruction before the load may have read
  pub leaves : WritesNeither code (suc (suc (suc j)))

-- ---- either

-- word j + 2 is a no-op that nothing needs
abbrev pub IsNeedless : List ℕ → ℕ → Type 0
IsNeedless code j = IsOfRead code j ⊎ BehindLoad code j
