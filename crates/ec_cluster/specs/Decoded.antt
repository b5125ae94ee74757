-- The objects that the words of nodes spell.
use Rattle.std.specs.Prelude.{ℕ, false, List, [], length, map, Option, Some, None}
use Rattle.ec_activations.specs.Frames.{or_nil}
use Rattle.ec_cluster.specs.Cluster.{place, stores}
use Rattle.ec_cluster.specs.declared.cluster.Cluster.{Cluster}
use Rattle.ec_cluster.specs.Each.{each_from}
use Rattle.ec_cluster.specs.Whereabouts.{made_count}
use Rattle.ec_world.specs.declared.key.Key.TheVariants.{Object}
use Rattle.ec_objects.specs.Values.{value_of}
use Rattle.ec_cluster.specs.Kinds.{kind_at}
use Rattle.ec_things.specs.Store.{Owned, Store, word_of}
use Rattle.ec_world.specs.declared.class.ClassNo.{ClassNo}
use Rattle.ec_world.specs.declared.class.ClassNo.TheVariants.{Node}
use Rattle.ec_world.specs.declared.class.ClassRec.{ClassRec}
use Rattle.ec_world.specs.declared.common.Common.{Common}
use Rattle.ec_world.specs.declared.object.ObjectRec.{ObjectRec}
use Rattle.ec_world.specs.declared.value.Value.{Value}
use Rattle.ec_world.specs.declared.value.Value.TheVariants.{Nil}
use Rattle.ec_world.specs.declared.value.ValueType.{ValueType}

-- ---- fields

-- a word as a value of a kind, where both are there
abbrev pub read_as : Store → Option ValueType → Option ℕ → Option Value
read_as s None word = None
read_as s (Some kind) None = None
read_as s (Some kind) (Some w) = value_of s kind w

-- field i of an object of a class that has these blocks, where it can be read
abbrev pub field_of : List ClassRec → Store → ClassNo → List ℕ → ℕ → Option Value
field_of classes s class blocks i = read_as s (kind_at classes class i) (word_of s blocks i)

-- so many fields; what can't be read is seen as nil
abbrev pub fields_of : List ClassRec → Store → ClassNo → List ℕ → ℕ → List Value
fields_of classes s class blocks size = each_from (λ i. or_nil (field_of classes s class blocks i)) 0 size

-- ---- objects

-- what is seen of an object that isn't at its place
abbrev pub absent : ObjectRec
absent = record { class = Node; fields = []; fixed = false; monitor = None }

abbrev pub spelled_as : List ClassRec → Store → Owned → Option ClassNo → ObjectRec
spelled_as classes s r None = absent
spelled_as classes s r (Some class) =
    record { class = class; fields = fields_of classes s class r.blocks r.size; fixed = r.fixed; monitor = r.monitor }

abbrev pub spelled : List ClassRec → Store → Option Owned → ObjectRec
spelled classes s None = absent
spelled classes s (Some r) = spelled_as classes s r r.class

abbrev pub spelled_at : List ClassRec → ℕ → Option Store → ObjectRec
spelled_at classes oid None = absent
spelled_at classes oid (Some s) = spelled classes s (s.row (Object oid))

abbrev pub store_at : (ℕ → Option Store) → Option ℕ → Option Store
store_at nodes None = None
store_at nodes (Some k) = nodes k

-- the object of a number, as the node that is its place spells it
abbrev pub decoded_at : Cluster → ℕ → ObjectRec
decoded_at c oid = spelled_at c.parts.classes oid (store_at (stores c) (place c oid))

-- all objects that were noted, in the order of their numbers
abbrev pub decoded : Cluster → List ObjectRec
decoded c = each_from (decoded_at c) 1 (made_count c.whereabouts)

-- ---- what is seen

-- Nodes as what a world has beside its processes. Of constants it is seen only how many there are; output and events aren't seen.
abbrev pub seen_common : Cluster → Common
seen_common c = record {
  nodes = length c.nodes;
  classes = c.parts.classes;
  objects = decoded c;
  globals = map (λ t. Nil) c.parts.constants;
  output = [];
  events = [];
}
