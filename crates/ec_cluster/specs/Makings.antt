-- What the making of an object asks for, and what it leaves.
use Rattle.std.specs.Prelude.{◌≡◌, ℕ, suc, ◌*◌, ◌^◌, ◌<◌, ◌≤◌, List, [], ◌∷◌, ◌++◌, Option, Some, None, length}
use Rattle.ec_cluster.specs.Cluster.{CodeWorld, Shows, place, stores}
use Rattle.ec_cluster.specs.Steps.{Changes, HasObject, WhereIs, with_common}
use Rattle.ec_cluster.specs.declared.cluster.Cluster.{Cluster}
use Rattle.ec_cluster.specs.Whereabouts.{Gives, made_count}
use Rattle.ec_cluster.specs.Located.{Located, made_at}
use Rattle.ec_world.specs.Things.{class_blocks}
use Rattle.ec_world.specs.declared.key.Key.TheVariants.{Object}
use Rattle.ec_objects.specs.Values.{TextsFit}
use Rattle.ec_things.specs.Store.{Store}
use Rattle.ec_world.specs.Group.{Has}
use Rattle.ec_world.specs.declared.class.ClassNo.{ClassNo}
use Rattle.ec_world.specs.declared.object.ObjectRec.{ObjectRec}
use Rattle.ec_world.specs.declared.value.Value.{Value}
use Rattle.ec_world.specs.declared.value.Value.TheVariants.{Str}

-- The maker is there, the object has the next number, and the maker's node has blocks for it and room for its texts; a class whose objects
-- have no block has no fields.
pub record CanMake (c : Cluster) (maker oid : ℕ) (class : ClassNo) (fields : List Value) : Type 0 where
  pub maker_is : HasObject c maker
  pub next : oid ≡ suc (made_count c.whereabouts)
  pub small : length fields < 2 ^ 32
  pub few : length fields ≤ 128 * class_blocks class (length fields)
  pub blocks : (k : ℕ) (s : Store) → place c maker ≡ Some k → stores c k ≡ Some s → class_blocks class (length fields) ≤ s.free
  pub texts : (k : ℕ) (s : Store) → place c maker ≡ Some k → stores c k ≡ Some s → TextsFit s fields
  pub new : (k : ℕ) (s : Store) → stores c k ≡ Some s → s.row (Object oid) ≡ None

-- the objects of a world with one more
abbrev pub with_one : CodeWorld → ObjectRec → CodeWorld
with_one w o = with_common w (record w.common { objects = w.common.objects ++ o ∷ [] })

-- An object has been made where its maker is.
pub record Made (c c' : Cluster) (maker oid : ℕ) (o : ObjectRec) : Type 0 where
  pub changes : Changes (WhereIs c maker (λ text. Has o.fields (Str text))) c c'
  pub noted : (w : Located) (k : ℕ) → Gives c.whereabouts w → place c maker ≡ Some k → Gives c'.whereabouts (made_at w oid k)
  pub shown : (w : CodeWorld) → Shows c w → length w.common.objects ≡ made_count c.whereabouts → Shows c' (with_one w o)
