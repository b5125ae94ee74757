-- What an activation means to a world. The source's activations and those of three-address code are two meanings.
use Rattle.std.specs.Prelude.{ℕ, Bool, List, Option}
use Rattle.ec_world.specs.declared.value.Value.{Value}
use Rattle.ec_world.specs.declared.stop.Stop.{Stop}

pub record ActivationMeaning (A : Type 0) : Type 0 where
  pub operation : A → ℕ
  pub own : A → ℕ
  pub stop : A → Stop
  pub operands : A → List Value
  pub is_pending : A → Bool
  -- a new activation of an operation on an object, with its arguments, resting pending at its entry
  pub begun : ℕ → ℕ → List Value → A
  -- the activation once its action is done, with the result where there is one
  pub finished : A → Option Value → A
