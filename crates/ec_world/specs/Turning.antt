-- A process whose activation on top goes on.
use Rattle.std.specs.Prelude.{Bool, false, not, [], ◌∷◌, ◌++◌, Option, Some, None}
use Rattle.ec_base.specs.Stack.{below_of}
use Rattle.ec_world.specs.declared.common.Common.{Common}
use Rattle.ec_world.specs.declared.process.Proc.{Proc}
use Rattle.ec_world.specs.Meaning.{ActivationMeaning}

-- whether there is an activation whose action is done
abbrev pub is_done_top : {A : Type 0} → ActivationMeaning A → Option A → Bool
is_done_top M None = false
is_done_top M (Some a) = not (M.is_pending a)

-- What the world has, and a process, once the activation on top has gone on by these silent steps.
abbrev pub advanced_top : {A : Type 0} → (Common → A → Common × A) → Common → Proc A → Option A → Common × Proc A
advanced_top steps c proc None = (c, proc)
advanced_top steps c proc (Some top) =
    ((steps c top).0, record proc { activations = below_of proc.activations ++ (steps c top).1 ∷ [] })
