-- What the promises rest on: they speak of every program.
use Rattle.std.specs.Prelude.{ℕ, List}
use Rattle.ec_code.specs.declared.code.Parts.{Parts}
use Rattle.ec_emission.specs.Lowered.{IsLowered}
use Rattle.ec_meaning.specs.Programs.{Source}
use Rattle.ec_parcels.specs.Vectors.{vector_types}
use Rattle.ec_tool.specs.Sources.{IsChecked, IsMeant, vectors_in}
use Rattle.ec_world.specs.Group.{Has}
use Rattle.ec_world.specs.declared.class.VectorType.{VectorType}

-- each text of a program has a meaning
abbrev pub EachCheckedIsMeant : Type 0
EachCheckedIsMeant = (text : List ℕ) → IsChecked text → (meant : Source) × IsMeant text meant

-- The code of a source makes vectors of no type but those that its text writes: no others have numbers in parcels.
abbrev pub EachVectorIsWritten : Type 0
EachVectorIsWritten =
    (text : List ℕ) (source : Source) (meant : IsMeant text source) (p : Parts) → IsLowered source p → (of : VectorType) →
    Has (vector_types p) of → Has (vectors_in text source meant) of
