-- The activation whose action is to be done, and what its stop asks for.
use Rattle.std.specs.Prelude.{◌≡◌, ℕ, true, [], ◌∷◌, ◌++◌, List, Some, slice_get}
use Rattle.ec_cluster.specs.Cluster.{CodeWorld}
use Rattle.ec_code.specs.Activations.{code_meaning}
use Rattle.ec_code.specs.declared.activation.CodeActivation.{CodeActivation}
use Rattle.ec_world.specs.Doings.{doing_of}
use Rattle.ec_world.specs.Sights.{sight_of}
use Rattle.ec_world.specs.World.{who_of}
use Rattle.ec_world.specs.declared.doing.Doing.{Doing}
use Rattle.ec_world.specs.declared.process.Proc.{Proc}
use Rattle.ec_world.specs.declared.process.ProcStatus.TheVariants.{Ready}
use Rattle.ec_world.specs.declared.stop.Who.{Who}

-- process p has this activation on top, above these
pub record IsTop (w : CodeWorld) (p : ℕ) (below : List CodeActivation) (top : CodeActivation) : Type 0 where
  pub proc : Proc CodeActivation
  pub is : slice_get w.processes p ≡ Some proc
  pub stack : proc.activations ≡ below ++ top ∷ []

-- Process p is Ready, the action of the activation on top is to be done, and this is what it comes to.
pub record Asks (w : CodeWorld) (below : List CodeActivation) (top : CodeActivation) (who : Who) (doing : Doing) : Type 0 where
  pub is_top : IsTop w who.process below top
  pub ready : is_top.proc.status ≡ Ready
  pub pending : top.pending ≡ true
  pub who_is : who ≡ who_of code_meaning who.process below top
  pub is : doing_of (sight_of w.common) who top.stop top.operands ≡ Some doing
