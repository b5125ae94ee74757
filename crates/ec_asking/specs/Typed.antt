-- What reading nodes asks for besides a world that the system runs.
use Rattle.std.specs.Prelude.{◌≡◌, ℕ, List, Some, slice_get}
use Rattle.ec_asking.specs.Bare.{HasBareProgram}
use Rattle.ec_cluster.specs.declared.cluster.Cluster.{Cluster}
use Rattle.ec_code.specs.Activations.{operation_at}
use Rattle.ec_code.specs.Fine.{Has}
use Rattle.ec_code.specs.declared.code.Line.{Line}
use Rattle.ec_code.specs.declared.code.Live.{Live}
use Rattle.ec_code.specs.declared.code.Operation.{Operation}
use Rattle.ec_code.specs.declared.code.Parts.{Parts}
use Rattle.ec_code.specs.declared.code.Variable.{Variable}
use Rattle.ec_types.specs.declared.conform.static_type.StaticType.{StaticType}

-- a live variable has one type
abbrev pub AreTypedOnce : List Live → Type 0
AreTypedOnce live = (x : Variable) (s t : StaticType) → Has live x s → Has live x t → s ≡ t

-- so on each line of a program
abbrev pub IsTypedOnce : Parts → Type 0
IsTypedOnce p =
    (n place : ℕ) (o : Operation) (line : Line) → operation_at p n ≡ Some o → slice_get o.code place ≡ Some line → AreTypedOnce line.live

-- No object of the program itself has fields, and each live variable has one type.
pub record Readable (c : Cluster) : Type 0 where
  pub bare : HasBareProgram c
  pub typed : IsTypedOnce c.parts
