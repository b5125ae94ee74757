-- The program's own object, on which operation 0 runs, has no fields.
use Rattle.std.specs.List.{AllByRecursion as Each}
use Rattle.std.specs.Prelude.{◌≡◌, ℕ, Some}
use Rattle.ec_cluster.specs.Cluster.{stores}
use Rattle.ec_cluster.specs.declared.cluster.Cluster.{Cluster}
use Rattle.ec_code.specs.Idle.{IsPlain}
use Rattle.ec_world.specs.declared.key.Key.TheVariants.{Object}
use Rattle.ec_things.specs.Store.{Owned, Store}
use Rattle.ec_world.specs.declared.class.ClassNo.TheVariants.{Program}
use Rattle.ec_world.specs.declared.common.Common.{Common}

-- in a world
abbrev pub IsBareProgram : Common → Type 0
IsBareProgram c = Each IsPlain c.objects

-- on nodes
abbrev pub HasBareProgram : Cluster → Type 0
HasBareProgram c =
    (k oid : ℕ) (s : Store) (r : Owned) → stores c k ≡ Some s → s.row (Object oid) ≡ Some r → r.class ≡ Some Program → r.size ≡ 0
