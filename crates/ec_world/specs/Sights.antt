-- What an action looks at before it does anything: what a reader of a world sees. A world sees itself so, and so do nodes that
-- show it.
use Rattle.std.specs.Prelude.{ℕ, Bool, List, length, Option, Some, None, option_map, slice_get}
use Rattle.ec_world.specs.declared.value.Value.{Value}
use Rattle.ec_world.specs.declared.class.ClassNo.{ClassNo}
use Rattle.ec_world.specs.declared.class.ClassRec.{ClassRec}
use Rattle.ec_world.specs.declared.common.Common.{Common}
use Rattle.ec_world.specs.declared.object.ObjectRec.{ObjectRec}
use Rattle.ec_world.specs.Group.{group_of}
use Rattle.ec_world.specs.Objects.{object_at, class_at, elements_if, fixed_if}

pub record Sight : Type 0 where
  pub nodes : ℕ
  pub classes : List ClassRec
  -- how many global constants there are
  pub constants : ℕ
  -- the class of an object that is there
  pub class : ℕ → Option ClassNo
  -- how many elements a vector has; none where the object is no vector
  pub size : ℕ → Option ℕ
  -- the element of a vector at an index, from 0
  pub element : ℕ → ℕ → Option Value
  pub fixed : ℕ → Bool
  -- the members of an object's group, rising
  pub group : ℕ → List ℕ

abbrev pub class_of : Option ObjectRec → Option ClassNo
class_of None = None
class_of (Some o) = Some o.class

abbrev pub element_in : Option (List Value) → ℕ → Option Value
element_in None index = None
element_in (Some values) index = slice_get values index

-- a world sees itself
abbrev pub sight_of : Common → Sight
sight_of c = record {
  nodes = c.nodes;
  classes = c.classes;
  constants = length c.globals;
  class = λ oid. class_of (object_at c.objects oid);
  size = λ oid. option_map length (elements_if (object_at c.objects oid));
  element = λ oid index. element_in (elements_if (object_at c.objects oid)) index;
  fixed = λ oid. fixed_if (object_at c.objects oid);
  group = λ oid. group_of c oid;
}

-- the class or object constructor of an object, where it has one
abbrev pub class_if : List ClassRec → Option ClassNo → Option ClassRec
class_if classes None = None
class_if classes (Some class) = class_at classes class

abbrev pub class_record : Sight → ℕ → Option ClassRec
class_record s oid = class_if s.classes (s.class oid)
