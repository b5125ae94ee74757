-- The classes of the objects of a program's worlds, and their numbers.
use Rattle.std.specs.Prelude.{◌≡◌, ◌≢◌, ℕ, List, ◌++◌, Some, IsSome}
use Rattle.ec_parcels.specs.Vectors.{VectorsAreMade, each_once, numbered_types, table_of, vector_types}
use Rattle.ec_code.specs.Activations.{code_meaning, code_silent}
use Rattle.ec_code.specs.declared.activation.CodeActivation.{CodeActivation}
use Rattle.ec_code.specs.declared.code.Parts.{Parts}
use Rattle.ec_code.specs.Fine.{Fine}
use Rattle.ec_code.specs.Typing.{Declared}
use Rattle.ec_parcels.specs.Classes.{number_of}
use Rattle.ec_world.specs.Held.{Distinct}
use Rattle.ec_code.specs.SoundLaws.{world_after}
use Rattle.ec_code.specs.Sound.{SoundWorld}
use Rattle.ec_world.specs.Group.{Has}
use Rattle.ec_world.specs.Moves.{OperatorMove}
use Rattle.ec_world.specs.Objects.{object_at}
use Rattle.ec_world.specs.World.{Action, GoOn}
use Rattle.ec_world.specs.declared.class.ClassNo.TheVariants.{Node}
use Rattle.ec_world.specs.declared.class.VectorType.{VectorType}
use Rattle.ec_world.specs.declared.object.ObjectRec.{ObjectRec}
use Rattle.ec_world.specs.declared.run.RunEntry.{RunEntry}
use Rattle.ec_world.specs.declared.world.World.{World}

-- ---- vectors

-- The action of a process of a sound world makes no vectors but of types that the code makes.
abbrev pub ActionsKeepVectorsMade : Type 0
ActionsKeepVectorsMade =
    (d : Declared) (p : Parts) → Fine d p → (w : World CodeActivation) (n : ℕ) → SoundWorld d p w → VectorsAreMade p w →
    VectorsAreMade p (Action code_meaning w n)

-- Silent steps, of whatever program, make none.
abbrev pub SilentStepsKeepVectorsMade : Type 0
SilentStepsKeepVectorsMade =
    (p q : Parts) (w : World CodeActivation) (n : ℕ) → VectorsAreMade p w → VectorsAreMade p (GoOn code_meaning (code_silent q) w n)

-- Moves by the operator make none.
abbrev pub MovesKeepVectorsMade : Type 0
MovesKeepVectorsMade = (p : Parts) (w : World CodeActivation) (o k : ℕ) → VectorsAreMade p w → VectorsAreMade p (OperatorMove w o k)

-- The code makes vectors of the type of each vector of each world of each run.
abbrev pub EachRunMakesVectors : Type 0
EachRunMakesVectors =
    (d : Declared) (p : Parts) → Fine d p → (n : ℕ) (entries : List RunEntry) → VectorsAreMade p (world_after p n entries)

-- ---- numbers

-- The class of each object has a number, but that of nodes, whatever vector types are written.
abbrev pub EachClassHasNumber : Type 0
EachClassHasNumber =
    (d : Declared) (p : Parts) → Fine d p → (w : World CodeActivation) → SoundWorld d p w → VectorsAreMade p w →
    (oid : ℕ) (o : ObjectRec) → object_at w.common.objects oid ≡ Some o → o.class ≢ Node → (written : List VectorType) →
    IsSome (number_of (table_of p written) o.class)

-- No type stands twice in the table of a program.
abbrev pub TableOnce : Type 0
TableOnce = (p : Parts) (written : List VectorType) → Distinct (numbered_types p written)

-- what stands behind the written types
pub record ComeFirst (p : Parts) (written : List VectorType) : Type 0 where
  pub rest : List VectorType
  pub are : numbered_types p written ≡ each_once written ++ rest

-- The types that are written come first, each where it stands first.
abbrev pub WrittenComeFirst : Type 0
WrittenComeFirst = (p : Parts) (written : List VectorType) → ComeFirst p written

-- Where each type of which the code makes vectors is written, no others are in the table.
abbrev pub NoneButWritten : Type 0
NoneButWritten =
    (p : Parts) (written : List VectorType) → ((of : VectorType) → Has (vector_types p) of → Has written of) →
    numbered_types p written ≡ each_once written
