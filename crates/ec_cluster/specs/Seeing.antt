-- When nodes can be seen, and what is found of an object.
use Rattle.std.specs.Prelude.{◌≡◌, ◌<◌, ◌≤◌, ◌^◌, ℕ, List, length, Some, IsSome}
use Rattle.ec_cluster.specs.Cluster.{CodeWorld, Shows, place, stores}
use Rattle.ec_cluster.specs.declared.cluster.Cluster.{Cluster}
use Rattle.ec_cluster.specs.Whereabouts.{made_count}
use Rattle.ec_world.specs.Things.{class_blocks}
use Rattle.ec_world.specs.declared.key.Key.TheVariants.{Object}
use Rattle.ec_cluster.specs.Decoded.{decoded, field_of, fields_of}
use Rattle.ec_cluster.specs.Kinds.{EachFieldIsOfKind}
use Rattle.ec_stores.specs.declared.rows.Object.{Object as ObjectData}
use Rattle.ec_things.specs.Store.{Owned, Store}
use Rattle.ec_world.specs.Objects.{object_at}
use Rattle.ec_world.specs.declared.class.ClassNo.{ClassNo}

-- the first n fields of an object of a class that has these blocks can be read
abbrev pub CanBeRead : Cluster → Store → ClassNo → List ℕ → ℕ → Type 0
CanBeRead c s class blocks n = (i : ℕ) → i < n → IsSome (field_of c.parts.classes s class blocks i)

-- an object is at its place, and each of its words can be read by the kind of its field
pub record ObjectCanBeSeen (c : Cluster) (oid : ℕ) : Type 0 where
  pub node : ℕ
  pub at : place c oid ≡ Some node
  pub store : Store
  pub there : stores c node ≡ Some store
  pub row : Owned
  pub kept : store.row (Object oid) ≡ Some row
  pub class : ClassNo
  pub is : row.class ≡ Some class
  pub each : CanBeRead c store class row.blocks row.size

-- each object that was noted can be seen, and the number of nodes has 32 bits
pub record CanBeSeen (c : Cluster) : Type 0 where
  pub objects : (oid : ℕ) → 0 < oid → oid ≤ made_count c.whereabouts → ObjectCanBeSeen c oid
  pub few : length c.nodes < 2 ^ 32

-- an object is at the node that has this store, is seen as it is kept there, and can be read
pub record IsSeenAt (c : Cluster) (oid : ℕ) (s : Store) (o : ObjectData) : Type 0 where
  pub row : Owned
  pub kept : s.row (Object oid) ≡ Some row
  pub blocks : length row.blocks ≡ class_blocks o.class o.size
  pub each : CanBeRead c s o.class row.blocks o.size
  pub seen : object_at (decoded c) oid ≡ Some (record {
    class = o.class;
    fields = fields_of c.parts.classes s o.class row.blocks o.size;
    fixed = o.fixed;
    monitor = row.monitor;
  })

-- The nodes show a world of the program that they run: with its classes, as many nodes as there are, as many objects as were noted,
-- as many constants as the program, and each field of its kind.
pub record ShowsProgram (c : Cluster) (w : CodeWorld) : Type 0 where
  pub shows : Shows c w
  pub classes : w.common.classes ≡ c.parts.classes
  pub nodes : w.common.nodes ≡ length c.nodes
  pub objects : length w.common.objects ≡ made_count c.whereabouts
  pub constants : length w.common.globals ≡ length c.parts.constants
  pub kinds : EachFieldIsOfKind c.parts.classes w.common
