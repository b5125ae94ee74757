-- Operands of which the first is the own object.
use Rattle.std.proofs.Common.{◌≡◌, ◌<◌, ◌≤◌, ℕ, true, List, [], ◌∷◌, length, refl, arith}
use Rattle.std.specs.Prelude.{slice_set}
use Rattle.ec_code.specs.Steps.{with_itself}
use Rattle.ec_world.specs.declared.value.Value.{Value}
use Rattle.ec_world.specs.declared.value.Value.TheVariants.{Ref}

pub set_first : (own : ℕ) (vs : List Value) → 0 < length vs → slice_set vs 0 (Ref own) ≡ with_itself true own vs
set_first own [] h = absurd (omega arith)
set_first own (v ∷ vs) h = refl

pub no_first : (own : ℕ) (vs : List Value) → length vs ≤ 0 → vs ≡ with_itself true own vs
no_first own [] h = refl
no_first own (v ∷ vs) h = absurd (omega arith)
