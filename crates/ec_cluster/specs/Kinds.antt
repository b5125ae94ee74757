-- Of which kind each field of an object is.
use Rattle.std.specs.Prelude.{◌≡◌, ℕ, List, Option, Some, None, option_map, slice_get}
use Rattle.ec_objects.specs.Kinds.{IsOfKind}
use Rattle.ec_world.specs.Group.{fields_if}
use Rattle.ec_world.specs.Objects.{element_kind, object_at}
use Rattle.ec_world.specs.declared.class.ClassNo.{ClassNo}
use Rattle.ec_world.specs.declared.class.ClassNo.TheVariants.{Node, Program, Made, Vector}
use Rattle.ec_world.specs.declared.class.ClassRec.{ClassRec}
use Rattle.ec_world.specs.declared.class.FieldRec.{FieldRec}
use Rattle.ec_world.specs.declared.common.Common.{Common}
use Rattle.ec_world.specs.declared.object.ObjectRec.{ObjectRec}
use Rattle.ec_world.specs.declared.value.Value.{Value}
use Rattle.ec_world.specs.declared.value.ValueType.{ValueType}

-- the kind of field i of an object of a class, or of element i of a vector; the objects of nodes and of the program have no fields
abbrev pub kind_at : List ClassRec → ClassNo → ℕ → Option ValueType
kind_at classes (Made k) i = option_map (λ (f : FieldRec). f.of) (slice_get (fields_if (slice_get classes k)) i)
kind_at classes (Vector of) i = Some (element_kind of)
kind_at classes Program i = None
kind_at classes Node i = None

-- there is a field i in objects of the class, and this is a value of its kind
pub record IsOfKindAt (classes : List ClassRec) (class : ClassNo) (i : ℕ) (v : Value) : Type 0 where
  pub kind : ValueType
  pub there : kind_at classes class i ≡ Some kind
  pub is : IsOfKind kind v

-- each field of each object is of its kind
abbrev pub EachFieldIsOfKind : List ClassRec → Common → Type 0
EachFieldIsOfKind classes c = (oid i : ℕ) (o : ObjectRec) (v : Value) → object_at c.objects oid ≡ Some o → slice_get o.fields i ≡ Some v →
    IsOfKindAt classes o.class i v
