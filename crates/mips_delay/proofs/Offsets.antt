-- The offset of a branch that leads from one address to another.
use Rattle.std.proofs.Common.{◌≡◌, ℕ, ◌+◌, ◌-◌, ◌*◌, ◌/◌, ◌%◌, ◌<◌, ◌≤◌, ◌^◌, Bool, true, false, cond, refl, arith}
use Rattle.std.proofs.lemmas.Bool.Decides.{nat_tests}
use Rattle.std.specs.Prelude.{nat_lt}
use Rattle.mips_delay.specs.Choice.{IsNear}
use Rattle.mips_isa.specs.declared.field.Sixteen.{Sixteen}
use Rattle.mips_machine.specs.Step.{branch_target}
use Rattle.mips_machine.specs.Values.{plus}

abbrev far : Bool → ℕ → ℕ
far b n = cond b n (n + (2 ^ 32 - 2 ^ 16))

leads_by : (b : Bool) (at goal bits : ℕ) → IsNear at goal → bits ≡ (goal + (2 ^ 32 - (at + 4))) % 2 ^ 32 / 2 ^ 2 % 2 ^ 16 →
    (b ≡ true → bits < 2 ^ 15) → (b ≡ false → 2 ^ 15 ≤ bits) → plus (plus at 4) (4 * far b bits) ≡ goal
leads_by true at goal bits (p, q, r, s, t, u) is low high = let l = low refl in omega (arith, p, q, r, s, t, u, is, l)
leads_by false at goal bits (p, q, r, s, t, u) is low high = let h = high refl in omega (arith, p, q, r, s, t, u, is, h)

pub offset_leads : (at goal : ℕ) (offset : Sixteen) → IsNear at goal →
    offset.bits ≡ (goal + (2 ^ 32 - (at + 4))) % 2 ^ 32 / 2 ^ 2 % 2 ^ 16 → branch_target at offset ≡ goal
offset_leads at goal offset near is =
    leads_by (nat_lt offset.bits (2 ^ 15)) at goal offset.bits near is (λ e. (grind (arith, nat_tests))) (λ e. (grind (arith, nat_tests)))
