-- Activations whose action is done, and the program's own object.
use Rattle.std.specs.Prelude.{◌≡◌, ℕ, true, false, [], Option, Some, None}
use Rattle.std.specs.List.{AllByRecursion as Each}
use Rattle.ec_base.specs.Stack.{top_of, below_of}
use Rattle.ec_code.specs.Activations.{operation_at}
use Rattle.ec_code.specs.declared.activation.CodeActivation.{CodeActivation}
use Rattle.ec_code.specs.declared.code.Operation.{Operation}
use Rattle.ec_code.specs.declared.code.Parts.{Parts}
use Rattle.ec_code.specs.Live.{stays}
use Rattle.ec_world.specs.declared.class.ClassNo.{ClassNo}
use Rattle.ec_world.specs.declared.class.ClassNo.TheVariants.{Node, Program, Made, Vector}
use Rattle.ec_world.specs.declared.object.ObjectRec.{ObjectRec}
use Rattle.ec_world.specs.declared.process.Proc.{Proc}
use Rattle.ec_world.specs.declared.world.World.{World}

-- ---- activations

-- code goes on behind the stop
abbrev pub GoesBehind : CodeActivation → Type 0
GoesBehind a = stays a.stop ≡ true

-- so it does, and nothing is to come any more
pub record IsIdle (a : CodeActivation) : Type 0 where
  pub taken : a.into ≡ None
  pub goes_on : GoesBehind a

-- so it is with the one on top where its action is done
abbrev pub IsIdleTop : Option CodeActivation → Type 0
IsIdleTop None = Unit {0}
IsIdleTop (Some a) = a.pending ≡ false → IsIdle a

-- Code goes on behind the stop of each activation that lies below another one.
pub record IdleProc (proc : Proc CodeActivation) : Type 0 where
  pub below : Each GoesBehind (below_of proc.activations)
  pub top : IsIdleTop (top_of proc.activations)

-- ---- worlds

-- the program's own object has no fields
abbrev pub IsPlain : ObjectRec → Type 0
IsPlain o = o.class ≡ Program → o.fields ≡ []

pub record IdleWorld (w : World CodeActivation) : Type 0 where
  pub objects : Each IsPlain w.common.objects
  pub processes : Each IdleProc w.processes

-- ---- programs

-- the objects of a class of the program, and the own object of the program, have operations
abbrev pub HasOperations : ClassNo → Type 0
HasOperations (Made k) = Unit {0}
HasOperations Program = Unit {0}
HasOperations Node = ⊥
HasOperations (Vector of) = ⊥

-- Each operation is one of such a class.
abbrev pub OfClasses : Parts → Type 0
OfClasses p = (n : ℕ) (o : Operation) → operation_at p n ≡ Some o → HasOperations o.class
