-- The class of each object has a number, but that of nodes.
use Rattle.std.proofs.Common.{◌≡◌, ◌≢◌, ℕ, ◌+◌, ◌<◌, List, length, Option, Some, None, refl, ap}
use Rattle.std.proofs.lemmas.Bool.{lt-ltb}
use Rattle.std.specs.List.{position_or_len}
use Rattle.std.specs.Prelude.{if◌then◌else◌, IsSome, is_some, option_map, slice_get}
use Rattle.ec_base.proofs.Lists.{get_within}
use Rattle.ec_parcels.proofs.Types.{made_numbered, placed}
use Rattle.ec_parcels.specs.Vectors.{VectorsAreMade, numbered_types, table_of, vector_types}
use Rattle.ec_code.specs.Fine.{Fine}
use Rattle.ec_code.specs.Typing.{Declared, DeclaredClass}
use Rattle.ec_code.specs.declared.activation.CodeActivation.{CodeActivation}
use Rattle.ec_code.specs.declared.code.Parts.{Parts}
use Rattle.ec_parcels.specs.Classes.{number_of}
use Rattle.ec_code.proofs.Carried.{each_object}
use Rattle.ec_code.specs.Sound.{FineFields, FineObject, SoundWorld}
use Rattle.ec_world.specs.Group.{Has}
use Rattle.ec_world.specs.Objects.{is_same_vector, object_at}
use Rattle.ec_world.specs.declared.class.ClassNo.{ClassNo}
use Rattle.ec_world.specs.declared.class.ClassNo.TheVariants.{Node, Program, Made, Vector}
use Rattle.ec_world.specs.declared.class.VectorType.{VectorType}
use Rattle.ec_world.specs.declared.object.ObjectRec.{ObjectRec}
use Rattle.ec_world.specs.declared.value.Value.{Value}
use Rattle.ec_world.specs.declared.world.World.{World}

module _ (p : Parts) (written : List VectorType) where
  -- a class of the program
  made_some : (place : ℕ) → place < length p.classes → IsSome (number_of (table_of p written) (Made place))
  made_some place l = ap (λ b. is_some (if b then Some place else None)) (lt-ltb place (length p.classes) l)

  -- a type of which its code makes vectors
  vector_some : (of : VectorType) → Has (vector_types p) of → IsSome (number_of (table_of p written) (Vector of))
  vector_some of has =
      let types : List VectorType = numbered_types p written in
      let at : ℕ = position_or_len (λ t. is_same_vector t of) types in
      ap (λ b. is_some (option_map (λ place. length p.classes + place) (if b then Some at else None)))
      (lt-ltb at (length types) (placed types of (made_numbered p written of has)))

  module _ (d : Declared) (fine : Fine d p) (objects : List ObjectRec) where
    -- the objects of a sound world are of classes of the program
    class_within : (place : ℕ) (class : Option DeclaredClass) → slice_get d.classes place ≡ class → IsSome class → place < length p.classes
    class_within place None e h = absurd (let no = h in cc)
    class_within place (Some t) e h = let c = fine.classes place t e in get_within p.classes place c.0 c.1

    class_some : (class : ClassNo) (fields : List Value) → FineFields d p objects class fields →
        ((of : VectorType) → class ≡ Vector of → Has (vector_types p) of) → class ≢ Node → IsSome (number_of (table_of p written) class)
    class_some Node fields f made other = absurd (other refl)
    class_some Program fields f made other = refl
    class_some (Made place) fields f made other = made_some place (class_within place (slice_get d.classes place) refl f.0)
    class_some (Vector of) fields f made other = vector_some of (made of refl)

pub number_some : (d : Declared) (p : Parts) → Fine d p → (w : World CodeActivation) → SoundWorld d p w → VectorsAreMade p w →
    (oid : ℕ) (o : ObjectRec) → object_at w.common.objects oid ≡ Some o → o.class ≢ Node → (written : List VectorType) →
    IsSome (number_of (table_of p written) o.class)
number_some d p fine w s made oid o e other written =
    class_some p written d fine w.common.objects o.class o.fields
    (each_object (FineObject d p w.common.objects) w.common.objects oid o s.common.objects e) (λ of is. made oid o of e is) other
