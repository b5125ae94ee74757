-- A RISC-V machine can rest at any place, with any words in its base registers and its homes.
use Rattle.std.proofs.Common.{◌≡◌, ℕ, zero, suc, ◌+◌, ◌<◌, ◌≤◌, List, [], ◌∷◌, length, refl, arith}
use Rattle.ec_machine_code.specs.Fitted.{CanRest}
use Rattle.rv_machine.specs.Machine.{rv_register}
use Rattle.rv_machine.specs.declared.machine.RvMachine.{RvMachine}
use Rattle.rv_code.specs.Meaning.{rv_meaning}

-- x8, x9, and x18 to x27
abbrev registers_with : ℕ → ℕ → (ℕ → ℕ) → List ℕ
registers_with frame own held =
    0 ∷ 0 ∷ 0 ∷ 0 ∷ 0 ∷ 0 ∷ 0 ∷ 0 ∷ frame ∷ own ∷ 0 ∷ 0 ∷ 0 ∷ 0 ∷ 0 ∷ 0
    ∷ 0 ∷ 0 ∷ held 0 ∷ held 1 ∷ held 2 ∷ held 3 ∷ held 4 ∷ held 5 ∷ held 6 ∷ held 7 ∷ held 8 ∷ held 9 ∷ 0 ∷ 0 ∷ 0 ∷ 0 ∷ []

many_registers : (frame own : ℕ) (held : ℕ → ℕ) → 32 ≤ length (registers_with frame own held)
many_registers frame own held = let all : length (registers_with frame own held) ≡ 32 = refl in omega (arith, all)

abbrev at_rest : ℕ → ℕ → ℕ → (ℕ → ℕ) → RvMachine
at_rest place frame own held = record { registers = registers_with frame own held; pc = place; many = many_registers frame own held }

homes_are : (place frame own : ℕ) (held : ℕ → ℕ) (k : ℕ) → k < 10 → rv_register (at_rest place frame own held) (18 + k) ≡ held k
homes_are place frame own held zero h = refl
homes_are place frame own held (suc zero) h = refl
homes_are place frame own held (suc (suc zero)) h = refl
homes_are place frame own held (suc (suc (suc zero))) h = refl
homes_are place frame own held (suc (suc (suc (suc zero)))) h = refl
homes_are place frame own held (suc (suc (suc (suc (suc zero))))) h = refl
homes_are place frame own held (suc (suc (suc (suc (suc (suc zero)))))) h = refl
homes_are place frame own held (suc (suc (suc (suc (suc (suc (suc zero))))))) h = refl
homes_are place frame own held (suc (suc (suc (suc (suc (suc (suc (suc zero)))))))) h = refl
homes_are place frame own held (suc (suc (suc (suc (suc (suc (suc (suc (suc zero))))))))) h = refl
homes_are place frame own held (suc (suc (suc (suc (suc (suc (suc (suc (suc (suc k)))))))))) h = absurd (omega arith)

pub rv_can_rest : CanRest rv_meaning
rv_can_rest place frame own held small fits own_fits all_fit = record {
  state = at_rest place frame own held;
  rests = tt;
  at = refl;
  frame_is = refl;
  own_is = refl;
  homes = homes_are place frame own held;
}
