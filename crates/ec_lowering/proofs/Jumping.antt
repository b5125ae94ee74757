-- Steps are passed over where there are any.
use Rattle.std.proofs.Common.{◌≡◌, ℕ, zero, suc, ◌<◌, ◌≤◌, [], ◌∷◌, refl, arith}
use Rattle.ec_code.specs.declared.code.Op.TheVariants as op
use Rattle.ec_emission.specs.Statements.{jump_over}

pub no_jump : (k : ℕ) → k ≤ 0 → jump_over k ≡ []
no_jump zero e = refl
no_jump (suc k) e = absurd (omega arith)

pub a_jump : (k : ℕ) → 0 < k → jump_over k ≡ op.Jump k ∷ []
a_jump zero e = absurd (omega arith)
a_jump (suc k) e = refl
