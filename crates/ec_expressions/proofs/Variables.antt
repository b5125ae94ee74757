-- Named variables are leaves.
use Rattle.std.proofs.Common.{◌≡◌, ℕ, Bool, true, false, refl}
use Rattle.ec_emission.specs.Expressions.{variable_if}
use Rattle.ec_expressions.specs.Emitting.{source_by, count_by, is_leaf}
use Rattle.ec_expressions.specs.declared.emitter.Emitter.{Emitter}

pub leaf_if : (m : Emitter) (b : Bool) (n : ℕ) → is_leaf (variable_if (source_by m) m.captured (count_by m) m.literals.now b n) ≡ b
leaf_if m true n = refl
leaf_if m false n = refl
