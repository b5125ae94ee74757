-- A MIPS machine can rest at any place, with any words in its base registers and its homes.
use Rattle.std.proofs.Common.{◌≡◌, ℕ, zero, suc, ◌+◌, ◌<◌, ◌≤◌, List, [], ◌∷◌, length, refl, arith}
use Rattle.ec_machine_code.specs.Fitted.{CanRest}
use Rattle.mips_machine.specs.Machine.{mips_register}
use Rattle.mips_machine.specs.Step.{resting}
use Rattle.mips_machine.specs.declared.machine.MipsMachine.{MipsMachine}
use Rattle.mips_code.specs.Meaning.{mips_meaning}

-- $16 to $21, $23 and $30
abbrev registers_with : ℕ → ℕ → (ℕ → ℕ) → List ℕ
registers_with frame own held =
    0 ∷ 0 ∷ 0 ∷ 0 ∷ 0 ∷ 0 ∷ 0 ∷ 0 ∷ 0 ∷ 0 ∷ 0 ∷ 0 ∷ 0 ∷ 0 ∷ 0 ∷ 0
    ∷ held 0 ∷ held 1 ∷ held 2 ∷ held 3 ∷ held 4 ∷ held 5 ∷ 0 ∷ own ∷ 0 ∷ 0 ∷ 0 ∷ 0 ∷ 0 ∷ 0 ∷ frame ∷ 0 ∷ []

many_registers : (frame own : ℕ) (held : ℕ → ℕ) → 32 ≤ length (registers_with frame own held)
many_registers frame own held = let all : length (registers_with frame own held) ≡ 32 = refl in omega (arith, all)

abbrev at_rest : ℕ → ℕ → ℕ → (ℕ → ℕ) → MipsMachine
at_rest place frame own held =
    record { registers = registers_with frame own held; hi = 0; lo = 0; flow = resting place; many = many_registers frame own held }

homes_are : (place frame own : ℕ) (held : ℕ → ℕ) (k : ℕ) → k < 6 → mips_register (at_rest place frame own held) (16 + k) ≡ held k
homes_are place frame own held zero h = refl
homes_are place frame own held (suc zero) h = refl
homes_are place frame own held (suc (suc zero)) h = refl
homes_are place frame own held (suc (suc (suc zero))) h = refl
homes_are place frame own held (suc (suc (suc (suc zero)))) h = refl
homes_are place frame own held (suc (suc (suc (suc (suc zero))))) h = refl
homes_are place frame own held (suc (suc (suc (suc (suc (suc k)))))) h = absurd (omega arith)

pub mips_can_rest : CanRest mips_meaning
mips_can_rest place frame own held small fits own_fits all_fit = record {
  state = at_rest place frame own held;
  rests = refl;
  at = refl;
  frame_is = refl;
  own_is = refl;
  homes = homes_are place frame own held;
}
