-- What holds of the classes, the beginning and the constants of a program that a source is lowered to, of all that it
-- takes to be
-- well typed.
use Rattle.std.specs.Prelude.{◌≡◌, ℕ, Some, slice_get}
use Rattle.ec_code.specs.declared.code.Parts.{Parts}
use Rattle.ec_code.specs.Fine.{Begins, FineClass}
use Rattle.ec_code.specs.Typing.{DeclaredClass}
use Rattle.ec_types.specs.declared.conform.static_type.StaticType.{StaticType}
use Rattle.ec_types.specs.Known.{IsOfProgram}
use Rattle.ec_emission.specs.Lowered.{declared_of}
use Rattle.ec_meaning.specs.Programs.{Source}
use Rattle.ec_world.specs.declared.class.ClassNo.TheVariants.{Program}
use Rattle.ec_world.specs.declared.class.ClassRec.{ClassRec}

-- Operation 0 begins the program, the declared classes are there and well typed, and each constant is of a type of the
-- program.
pub record HasFineClasses (s : Source) (p : Parts) : Type 0 where
  pub begins : Begins (declared_of s) p 0 Program
  pub classes :
      (k : ℕ) (t : DeclaredClass) →
      slice_get (declared_of s).classes k ≡ Some t →
      (c : ClassRec) × (slice_get p.classes k ≡ Some c) × FineClass (declared_of s) p k c t
  pub declared : (k : ℕ) (c : ClassRec) → slice_get p.classes k ≡ Some c →
      (t : DeclaredClass) × (slice_get (declared_of s).classes k ≡ Some t)
  pub constants : (i : ℕ) (t : StaticType) → slice_get p.constants i ≡ Some t → IsOfProgram (declared_of s).types t
